-- Constituents that were read one after another, and the next one refused.
use Rattle.std.proofs.Common.{◌≡◌, ℕ, ◌<◌, ◌≤◌, ◌^◌, List, [], ◌∷◌, ◌++◌, map, length, refl, ap, sym, ◌∙◌, subst, arith, append_assoc, append-nil, cond}
use Rattle.std.specs.Prelude.{Bool, true, false}
use Rattle.calculus.specs.Tree.{Tree, Trees, none, also, trees}
use Rattle.calculus.specs.Bytes.{be32, joined}
use Rattle.calculus.specs.Shape.{count}
use Rattle.calculus.specs.Order.{up_to, placed, sorted, IsAscending, IsBelowFirst}
use Rattle.calculus.specs.Code.{code, codes}
use Rattle.calculus.specs.Form.{Sort, Scope}
use Rattle.calculus.proofs.Sorting.{by_place, Each, Each-arranged, length-arranged}
use Rattle.calculus.proofs.Splitting.{length-codes}
use Rattle.calculus.proofs.Ordered.{up_to_total}
use Rattle.code_faults.specs.declared.fault.ReadFault.{ReadFault}
use Rattle.code_faults.specs.Reading.{Reads}
use Rattle.code_faults.specs.Refusing.{Denies, IsRight, AreRight, HasRoom, Refuses, RefusesRow, RefusesBag, RefusesNumber}
use Rattle.code_faults.proofs.Rows.{Row, last_of}
use Rattle.code_faults.proofs.Bags.{Bag}
use Rattle.code_faults.proofs.Denying.{first-denied, number-next, read-next, refused, left-less, less-left}
use Rattle.code_faults.proofs.Kids.{first-right, rest-right, count-right}

-- the code of a right tree
pub record CodeOf (b : Bool) (s : Sort) (v : Scope) (room : ℕ) (c : List ℕ) : Type 0 where
  pub tree : Tree
  pub right : IsRight b s v room tree
  pub is : code tree ≡ c

pub each-code : {b : Bool} {s : Sort} {v : Scope} {room : ℕ} (ts : Trees) → AreRight b s v room ts → Each (CodeOf b s v room) (codes ts)
each-code none h = tt
each-code (also t ts) h = (record { tree = t; right = first-right t ts h; is = refl }, each-code ts (rest-right t ts h))

-- what was read: the first, and the others
row-one : {A : Type 0} {f : A → Tree} {s : Sort} {v : Scope} {room : ℕ} (x : A) (xs : List A) {a c : List ℕ} → Row f s v room (x ∷ xs) a c → Reads s v room (f x) a (joined (map (λ y. code (f y)) xs) ++ c)
row-one {f = f} x xs {c = c} h = record { is = h.is ∙ append_assoc (code (f x)) (joined (map (λ y. code (f y)) xs)) c; fits = h.fits.0; low = omega (arith, h.low) }

row-others : {A : Type 0} {f : A → Tree} {s : Sort} {v : Scope} {room : ℕ} (x : A) (xs : List A) {a c : List ℕ} → Row f s v room (x ∷ xs) a c → Row f s v room xs (joined (map (λ y. code (f y)) xs) ++ c) c
row-others x xs h = record { is = refl; fits = h.fits.1; low = omega (arith, h.low) }

deny-at : {e : ReadFault} {a b : List ℕ} (c : List ℕ) → a ≡ b → Denies e b c → Denies e a c
deny-at {e = e} c p h = subst (λ (z : List ℕ). Denies e z c) (sym p) h

-- as many codes of right trees, and more: those that were read are the first of them
pub go : {A : Type 0} {f : A → Tree} {b : Bool} {s : Sort} {v : Scope} {room : ℕ} {e : ReadFault} (xs : List A) {start now : List ℕ}
    → Row f s v room xs start now → HasRoom v start → (cs : List (List ℕ)) → Each (CodeOf b s v room) cs → length xs < length cs
    → ((t : Tree) (ds : List (List ℕ)) → cs ≡ map (λ y. code (f y)) xs ++ code t ∷ ds → IsRight b s v room t → HasRoom v now → Denies e now (code t ++ joined ds))
    → Denies e start (joined cs)
go [] h l [] g n k = absurd (omega arith)
go {f = f} {e = e} [] {start = start} h l (c ∷ cs) g n k =
    subst (λ (z : List ℕ). Denies e start (z ++ joined cs)) g.0.is
    (deny-at (code g.0.tree ++ joined cs) h.is (k g.0.tree cs (ap (λ (z : List ℕ). z ∷ cs) (sym g.0.is)) g.0.right (less-left [] h.is l)))
go (x ∷ xs) h l [] g n k = absurd (omega arith)
go {f = f} {s = s} {v = v} {e = e} (x ∷ xs) {start = start} h l (c ∷ cs) g n k =
    let r = row-one x xs h in
    subst (λ (z : List ℕ). Denies e start (z ++ joined cs)) g.0.is
    (read-next g.0.tree (joined cs) r l g.0.right
    (λ q. go xs (row-others x xs h) (left-less r l) cs g.1 (omega arith)
    (λ t ds w. k t ds (let u : code (f x) ≡ c = q ∙ g.0.is in cc))))

-- a number, some constituents, and then one is refused
pub row-going : {A : Type 0} {f : A → Tree} {b : Bool} {s : Sort} {v : Scope} {room : ℕ} {e : ReadFault} {xs : List A} {start now : List ℕ} (least most n : ℕ) (bs : List ℕ)
    → Row f s v room xs start now → bs ≡ be32 n ++ start → n < 2 ^ 32 → length xs < n → Refuses b s v room e now → RefusesRow b s v room least most e bs
row-going {b = b} {s = s} {v = v} {room = room} {e = e} {xs = xs} least most n bs h is m i r = record { no = there }
  where
    there : HasRoom v bs → (ts : Trees) → AreRight b s v room ts → least ≤ count ts → count ts ≤ most → Denies e bs (be32 (count ts) ++ joined (codes ts))
    there l ts g p q = number-next (count ts) (joined (codes ts)) is m (count-right ts g)
        (λ w. go xs h (less-left (be32 n) is l) (codes ts) (each-code ts g) (omega (arith, length-codes ts, w)) (λ t ds u k j. refused t (joined ds) r j k))

pub number-row : {b : Bool} {s : Sort} {v : Scope} {room : ℕ} {e : ReadFault} {bs : List ℕ} {least most : ℕ} → RefusesNumber least most e bs → RefusesRow b s v room least most e bs
number-row h = record { no = λ l ts g p q. first-denied (joined (codes ts)) (h.no (count ts) p q (count-right ts g)) }

pub number-bag : {s : Sort} {v : Scope} {room : ℕ} {e : ReadFault} {bs : List ℕ} → RefusesNumber 0 0xFFFFFFFF e bs → RefusesBag s v room e bs
number-bag h = record { no = λ l ts g. first-denied (joined (sorted (codes ts))) (h.no (count ts) (omega arith) (omega (arith, count-right ts g)) (count-right ts g)) }

below-placed : (y x : List ℕ) (ys : List (List ℕ)) → up_to y x ≡ true → IsBelowFirst y ys → IsBelowFirst y (placed x ys)
unfolding placed
below-placed y x [] p q = p
below-placed y x (z ∷ zs) p q = by_place x z zs (IsBelowFirst y) p q

place : (x y : List ℕ) (ys : List (List ℕ)) → IsAscending (y ∷ ys) → IsAscending (placed x ys) → (t : Bool) → up_to x y ≡ t → IsAscending (cond t (x ∷ y ∷ ys) (y ∷ placed x ys))
place x y ys h k true e = (e, h)
place x y ys h k false e = (below-placed y x ys (up_to_total x y e) h.0, k)

placed-ascends : (x : List ℕ) (ys : List (List ℕ)) → IsAscending ys → IsAscending (placed x ys)
unfolding placed
placed-ascends x [] h = (tt, tt)
placed-ascends x (y ∷ ys) h = place x y ys h (placed-ascends x ys h.1) (up_to x y) refl

pub sorted-ascends : (xs : List (List ℕ)) → IsAscending (sorted xs)
unfolding sorted
sorted-ascends [] = tt
sorted-ascends (x ∷ xs) = placed-ascends x (sorted xs) (sorted-ascends xs)

ascending-on : (cs : List (List ℕ)) (c : List ℕ) (ds : List (List ℕ)) → IsAscending (cs ++ c ∷ ds) → up_to (last_of cs) c ≡ true
ascending-on [] [] ds h = refl
ascending-on [] (x ∷ c) ds h = refl
ascending-on (b ∷ []) c ds h = h.0
ascending-on (b ∷ d ∷ cs) c ds h = ascending-on (d ∷ cs) c ds h.1

pub map-codes : {A : Type 0} (f : A → Tree) (xs : List A) → codes (trees (map f xs)) ≡ map (λ y. code (f y)) xs
map-codes f [] = refl
map-codes f (x ∷ xs) = ap (λ (cs : List (List ℕ)). code (f x) ∷ cs) (map-codes f xs)

-- a number, some constituents that ascend, and then one is refused, or falls below the one before it
pub bag-going : {A : Type 0} {f : A → Tree} {s : Sort} {v : Scope} {room : ℕ} {e : ReadFault} {xs : List A} {start now last : List ℕ} (n : ℕ) (bs : List ℕ)
    → Bag f s v room xs start now last → bs ≡ be32 n ++ start → n < 2 ^ 32 → length xs < n
    → ((t : Tree) → IsRight true s v room t → HasRoom v now → up_to last (code t) ≡ true → Denies e now (code t)) → RefusesBag s v room e bs
bag-going {f = f} {s = s} {v = v} {room = room} {e = e} {xs = xs} {last = last} n bs h is m i r = record { no = there }
  where
    up-from : (ts : Trees) (t : Tree) (ds : List (List ℕ)) → sorted (codes ts) ≡ map (λ y. code (f y)) xs ++ code t ∷ ds → up_to last (code t) ≡ true
    up-from ts t ds u =
        let a : IsAscending (map (λ y. code (f y)) xs ++ code t ∷ ds) = subst IsAscending u (sorted-ascends (codes ts)) in
        let p : last ≡ last_of (map (λ y. code (f y)) xs) = h.ends ∙ ap last_of (map-codes f xs) in
        subst (λ (z : List ℕ). up_to z (code t) ≡ true) (sym p) (ascending-on (map (λ y. code (f y)) xs) (code t) ds a)

    there : HasRoom v bs → (ts : Trees) → AreRight true s v room ts → Denies e bs (be32 (count ts) ++ joined (sorted (codes ts)))
    there l ts g = number-next (count ts) (joined (sorted (codes ts))) is m (count-right ts g)
        (λ w. go xs h.row (less-left (be32 n) is l) (sorted (codes ts)) (Each-arranged true (CodeOf true s v room) (codes ts) (each-code ts g)) (omega (arith, length-codes ts, length-arranged true (codes ts), w))
        (λ t ds u k j. first-denied (joined ds) (r t k j (up-from ts t ds u))))

-- a constituent is refused
pub bag-refused : {A : Type 0} {f : A → Tree} {s : Sort} {v : Scope} {room : ℕ} {e : ReadFault} {xs : List A} {start now last : List ℕ} (n : ℕ) (bs : List ℕ)
    → Bag f s v room xs start now last → bs ≡ be32 n ++ start → n < 2 ^ 32 → length xs < n → Refuses true s v room e now → RefusesBag s v room e bs
bag-refused n bs h is m i r = bag-going n bs h is m i (λ t g l u. r.no l t g)

-- bytes fall below the code before them
pub bag-low : {A : Type 0} {f : A → Tree} {s : Sort} {v : Scope} {room : ℕ} {e : ReadFault} {xs : List A} {start now last : List ℕ} (n : ℕ) (bs : List ℕ)
    → Bag f s v room xs start now last → bs ≡ be32 n ++ start → n < 2 ^ 32 → length xs < n → ((c : List ℕ) → up_to last c ≡ true → Denies e now c) → RefusesBag s v room e bs
bag-low n bs h is m i r = bag-going n bs h is m i (λ t g l u. r (code t) u)

-- a code falls below the one before it
pub bag-lower : {A : Type 0} {f : A → Tree} {s : Sort} {v : Scope} {room : ℕ} {e : ReadFault} {xs : List A} {start now last next : List ℕ} {t : Tree} (n : ℕ) (bs : List ℕ)
    → Bag f s v room xs start now last → bs ≡ be32 n ++ start → n < 2 ^ 32 → length xs < n
    → Reads s v room t now next → ((d : List ℕ) → now ≡ d ++ next → up_to last d ≡ true → ⊥) → RefusesBag s v room e bs
bag-lower {e = e} {now = now} {last = last} {t = t} n bs h is m i g r =
    bag-going n bs h is m i
    (λ u k l p. subst (λ (z : List ℕ). Denies e now z) (append-nil (code u)) (read-next u [] g l k (λ q. absurd (r (code t) g.is (subst (λ (z : List ℕ). up_to last z ≡ true) (sym q) p)))))
