-- Constituents that were read one after another, and a place in the next one.
use Rattle.std.proofs.Common.{◌≡◌, ℕ, ◌<◌, ◌≤◌, ◌+◌, ◌^◌, cond, List, [], ◌∷◌, ◌++◌, map, length, refl, ap, sym, ◌∙◌, subst, arith, append_assoc}
use Rattle.std.specs.Prelude.{Bool, true, false, ⊤}
use Rattle.calculus.specs.Tree.{Tree, node, row, pair, Trees, none, also}
use Rattle.calculus.specs.Bytes.{be32, joined}
use Rattle.calculus.specs.Shape.{count, listed, held}
use Rattle.calculus.specs.Order.{up_to}
use Rattle.calculus.specs.Code.{code}
use Rattle.calculus.specs.Form.{Sort, row_of, pair_of, Scope}
use Rattle.calculus.proofs.Splitting.{kids-short}
use Rattle.code_faults.specs.declared.fault.ReadFault.{ReadFault}
use Rattle.code_faults.specs.Reading.{Reads}
use Rattle.code_faults.specs.Refusing.{IsRight, AreRight, HasRoom}
use Rattle.code_faults.specs.Places.{Slot, another, slot_for, Item, field, inner, put, by_code, standing, constituents, items, Stop}
use Rattle.code_faults.specs.Blaming.{Blames, BlamesIn, Wrong, InTree, InRow, InBag, InNumber}
use Rattle.code_faults.proofs.Rows.{Row, last_of}
use Rattle.code_faults.proofs.Denying.{less-left}
use Rattle.code_faults.proofs.Kids.{two, first-right, rest-right, count-right, count-listed, row-are}
use Rattle.code_faults.proofs.Blaming.{first-blamed, number-passed, read-passed, inside, inner-blamed, behind, level}

-- each of these trees is right
abbrev pub Rights : Bool → Sort → Scope → ℕ → List Tree → Type 0
Rights b s v room [] = ⊤
Rights b s v room (t ∷ ts) = IsRight b s v room t × Rights b s v room ts

pub rights-listed : {b : Bool} {s : Sort} {v : Scope} {room : ℕ} (ts : Trees) → AreRight b s v room ts → Rights b s v room (listed ts)
rights-listed none h = tt
rights-listed (also t ts) h = (first-right t ts h, rights-listed ts (rest-right t ts h))

put-by : (P : List Tree → Type 0) (t u : Tree) (us vs : List Tree) (c : Bool) → P (t ∷ u ∷ us) → P (u ∷ vs) → P (cond c (t ∷ u ∷ us) (u ∷ vs))
put-by P t u us vs true p q = p
put-by P t u us vs false p q = q

rights-put : {b : Bool} {s : Sort} {v : Scope} {room : ℕ} (t : Tree) (us : List Tree) → IsRight b s v room t → Rights b s v room us → Rights b s v room (put t us)
unfolding put
rights-put t [] g h = (g, tt)
rights-put {b = b} {s = s} {v = v} {room = room} t (u ∷ us) g h = put-by (Rights b s v room) t u us (put t us) (up_to (code t) (code u)) (g, h) (h.0, rights-put t us g h.1)

pub rights-sorted : {b : Bool} {s : Sort} {v : Scope} {room : ℕ} (ts : Trees) → AreRight b s v room ts → Rights b s v room (by_code ts)
unfolding by_code
rights-sorted none h = tt
rights-sorted (also t ts) h = rights-put t (by_code ts) (first-right t ts h) (rights-sorted ts (rest-right t ts h))

length-put : (t : Tree) (us : List Tree) → length (put t us) ≡ length us + 1
unfolding put
length-put t [] = omega arith
length-put t (u ∷ us) = put-by (λ (vs : List Tree). length vs ≡ length (u ∷ us) + 1) t u us (put t us) (up_to (code t) (code u)) (omega arith) (omega (arith, length-put t us))

pub length-sorted : (ts : Trees) → length (by_code ts) ≡ count ts
unfolding by_code
length-sorted none = refl
length-sorted (also t ts) = omega (arith, length-put t (by_code ts), length-sorted ts)

-- the least that the constituent after these codes may be
abbrev pub least_after : Bool → List ℕ → List (List ℕ) → List ℕ
least_after bag least [] = least
least_after bag least (c ∷ cs) = least_after bag (cond bag c []) cs

least-last : (c : List ℕ) (cs : List (List ℕ)) → least_after true c cs ≡ last_of (c ∷ cs)
least-last c [] = refl
least-last c (d ∷ cs) = least-last d cs

pub least-bag : (cs : List (List ℕ)) → least_after true [] cs ≡ last_of cs
least-bag [] = refl
least-bag (c ∷ cs) = least-last c cs

pub no-least : (cs : List (List ℕ)) → least_after false [] cs ≡ []
no-least [] = refl
no-least (c ∷ cs) = no-least cs

row-one : {A : Type 0} {f : A → Tree} {s : Sort} {v : Scope} {room : ℕ} (x : A) (xs : List A) {a c : List ℕ} → Row f s v room (x ∷ xs) a c → Reads s v room (f x) (code (f x) ++ []) []
row-one x xs h = record { is = refl; fits = h.fits.0; low = omega (arith, h.low) }

row-others : {A : Type 0} {f : A → Tree} {s : Sort} {v : Scope} {room : ℕ} (x : A) (xs : List A) {a c : List ℕ} → Row f s v room (x ∷ xs) a c → Row f s v room xs (joined (map (λ y. code (f y)) xs) ++ []) []
row-others x xs h = record { is = refl; fits = h.fits.1; low = omega (arith, h.low) }

-- the codes of things that stand for trees
abbrev pub codes_of : {A : Type 0} → (A → Tree) → List A → List (List ℕ)
codes_of f xs = map (λ y. code (f y)) xs

-- as many right constituents, and more: those that were read are the first of them
pub go : {A : Type 0} {f : A → Tree} {b : Bool} {s : Sort} {v : Scope} {room high low : ℕ} {stop : Stop} {before : List ℕ} (slot : Slot) (bag : Bool) (xs : List A) {start now : List ℕ}
    → Row f s v low xs start now → HasRoom v (joined (codes_of f xs) ++ before) → (least : List ℕ) (us : List Tree) → Rights b s v high us → length xs < length us
    → ((t : Tree) (ds : List Tree) (lower : List ℕ) → lower ≡ least_after bag least (codes_of f xs) → map code us ≡ codes_of f xs ++ code t ∷ map code ds → IsRight b s v high t → HasRoom v before
    → Blames stop room before (inner slot lower t ∷ constituents slot bag (cond bag (code t) []) ds))
    → Blames stop room (joined (codes_of f xs) ++ before) (constituents slot bag least us)
go slot bag [] h l least [] g n k = absurd (omega arith)
go slot bag [] h l least (u ∷ us) g n k = k u us least refl refl g.0 l
go slot bag (x ∷ xs) h l least [] g n k = absurd (omega arith)
go {f = f} {v = v} {room = room} {stop = stop} {before = before} slot bag (x ∷ xs) h l least (u ∷ us) g n k =
    let e = append_assoc (code (f x)) (joined (codes_of f xs)) before in
    let m : HasRoom v (code (f x) ++ (joined (codes_of f xs) ++ before)) = subst (λ (z : List ℕ). HasRoom v z) e l in
    subst (λ (z : List ℕ). Blames stop room z (constituents slot bag least (u ∷ us))) (sym e)
    (read-passed least u (constituents slot bag (cond bag (code u) []) us) (row-one x xs h) m g.0
    (λ q. go slot bag xs (row-others x xs h) (less-left (code (f x)) refl m) (cond bag (code u) []) us g.1 (omega arith)
    (λ t ds lower p w. k t ds lower (p ∙ ap (λ (c : List ℕ). least_after bag (cond bag c []) (codes_of f xs)) (sym q)) (cc (q, w)))))

pub number-codes : (n : ℕ) (cs : List (List ℕ)) (now : List ℕ) {bs start : List ℕ} → bs ≡ be32 n ++ start → start ≡ joined cs ++ now → bs ≡ (be32 n ++ joined cs) ++ now
number-codes n cs now p q = p ∙ ap (λ (z : List ℕ). be32 n ++ z) q ∙ sym (append_assoc (be32 n) (joined cs) now)

-- a number, some constituents, and then one has the place
pub row-blamed : {A : Type 0} {f : A → Tree} {b : Bool} {s : Sort} {v : Scope} {room : ℕ} {e : ReadFault} {low : ℕ} {xs : List A} {start now : List ℕ} (least most n : ℕ) (bs : List ℕ)
    → Row f s v low xs start now → bs ≡ be32 n ++ start → n < 2 ^ 32 → length xs < n → Wrong (InTree b s v room) e now → Wrong (InRow b s v room least most) e bs
row-blamed {f = f} {b = b} {s = s} {v = v} {room = room} {e = e} {xs = xs} {now = now} least most n bs h is m i r =
    behind (InTree b s v room) (InRow b s v room least most) e (be32 n ++ joined (codes_of f xs)) (number-codes n (codes_of f xs) now is h.is)
    (λ stop before k. record {
      no = λ l high ts g p q.
          let a = append_assoc (be32 n) (joined (codes_of f xs)) before in
          let j : HasRoom v (be32 n ++ (joined (codes_of f xs) ++ before)) = subst (λ (z : List ℕ). HasRoom v z) a l in
          subst (λ (z : List ℕ). Blames stop room z (field (be32 (count ts)) ∷ constituents another false [] (listed ts))) (sym a)
          (number-passed (count ts) (constituents another false [] (listed ts)) m (count-right ts g)
          (λ w. go another false xs h (less-left (be32 n) refl j) [] (listed ts) (rights-listed ts g) (omega (arith, count-listed ts, w))
          (λ t ds lower x y u o. subst (λ (z : List ℕ). Blames stop room before (inner another z t ∷ constituents another false [] ds)) (sym (x ∙ no-least (codes_of f xs))) (inner-blamed t (constituents another false [] ds) k o u))));
    }) r

pub number-row_blamed : {b : Bool} {s : Sort} {v : Scope} {room : ℕ} {e : ReadFault} {bs : List ℕ} {least most : ℕ} → Wrong (InNumber least most) e bs → Wrong (InRow b s v room least most) e bs
number-row_blamed {b = b} {s = s} {v = v} {room = room} {e = e} {least = least} {most = most} h = behind (InNumber least most) (InRow b s v room least most) e [] refl
    (λ stop before k. record { no = λ l high ts g p q. first-blamed (field (be32 (count ts)) ∷ []) (constituents another false [] (listed ts)) (k.no room (count ts) p q (count-right ts g)) }) h

pub number-bag_blamed : {s : Sort} {v : Scope} {room : ℕ} {e : ReadFault} {bs : List ℕ} → Wrong (InNumber 0 0xFFFFFFFF) e bs → Wrong (InBag s v room) e bs
number-bag_blamed {s = s} {v = v} {room = room} {e = e} h = behind (InNumber 0 0xFFFFFFFF) (InBag s v room) e [] refl
    (λ stop before k. record { no = λ l high ts g. first-blamed (field (be32 (count ts)) ∷ []) (constituents (slot_for s) true [] (standing true ts)) (k.no room (count ts) (omega arith) (omega (arith, count-right ts g)) (count-right ts g)) }) h

-- a row as a constituent
pub inner-row : {stop : Stop} {before : List ℕ} {b : Bool} {s : Sort} {v : Scope} {room high least most : ℕ} (r : Tree) (is : List Item)
    → InRow b s v room least most stop before → HasRoom v before → IsRight b (row_of s) v high r → least ≤ length (held r) → length (held r) ≤ most → Blames stop room before (inner another [] r ∷ is)
inner-row {high = high} (node row ts) is h l g p q = inside (node row ts) is (level (node row ts) refl (h.no l high ts (row-are ts g) (omega (arith, count-listed ts)) (omega (arith, count-listed ts))))
inner-row (node _ ts) is h l g p q = absurd g.fits.1

module _ {b : Bool} {s : Sort} {v : Scope} {room : ℕ} {e : ReadFault} {bs : List ℕ} where
  pub pair-first_blamed : Wrong (InTree b s v room) e bs → Wrong (InTree b (pair_of s) v room) e bs
  pair-first_blamed h = behind (InTree b s v room) (InTree b (pair_of s) v room) e [] refl (λ stop before k. record { no = there stop before k }) h
    where
      there : (stop : Stop) (before : List ℕ) → InTree b s v room stop before → HasRoom v before → (high : ℕ) → (t : Tree) → IsRight b (pair_of s) v high t → BlamesIn stop room before t
      there stop before h l high (node pair ts) g =
          let k = two b s s v [] high ts g.fits.1 (omega (arith, g.low)) (kids-short pair ts g.short) g.free in
          level (node pair ts) refl (subst (λ (us : Trees). Blames stop room before (items (node pair us))) (sym k.is) (inner-blamed k.first (inner another [] k.second ∷ []) h l k.one))
      there stop before h l high (node _ ts) g = absurd g.fits.1

  pub pair-second_blamed : {low : ℕ} {u : Tree} {next : List ℕ} → Reads s v low u bs next → Wrong (InTree b s v room) e next → Wrong (InTree b (pair_of s) v room) e bs
  pair-second_blamed {u = u} r h = behind (InTree b s v room) (InTree b (pair_of s) v room) e (code u) r.is (λ stop before k. record { no = there stop before k }) h
    where
      there : (stop : Stop) (before : List ℕ) → InTree b s v room stop before → HasRoom v (code u ++ before) → (high : ℕ) → (t : Tree) → IsRight b (pair_of s) v high t → BlamesIn stop room (code u ++ before) t
      there stop before h l high (node pair ts) g =
          let k = two b s s v [] high ts g.fits.1 (omega (arith, g.low)) (kids-short pair ts g.short) g.free in
          level (node pair ts) refl (subst (λ (us : Trees). Blames stop room (code u ++ before) (items (node pair us))) (sym k.is) (read-passed [] k.first (inner another [] k.second ∷ []) r l k.one (λ q. inner-blamed k.second [] h (less-left (code u) refl l) k.other)))
      there stop before h l high (node _ ts) g = absurd g.fits.1
