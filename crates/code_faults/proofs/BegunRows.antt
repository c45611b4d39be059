-- Rows and bags that are cut: the constituents that are there, one that is cut, and others.
use Rattle.std.proofs.Common.{◌≡◌, ℕ, zero, suc, ◌<◌, ◌≤◌, ◌+◌, ◌-◌, List, [], ◌∷◌, ◌++◌, map, length, take, refl, ap, sym, ◌∙◌, subst, arith, append_assoc, append-nil, length-append, inl, inr, ⊎_elim}
use Rattle.std.specs.Prelude.{Bool, true, false, replicate, ◌⊎◌}
use Rattle.std.specs.Ordering.{nat_cmp, is_le, ordering_then}
use Rattle.std.specs.declared.cmp.Ordering.{Ordering}
use Rattle.std.specs.declared.cmp.Ordering.TheVariants.{Less, Equal, Greater}
use Rattle.calculus.specs.Tree.{Tree, trees}
use Rattle.calculus.specs.Size.{height, heights}
use Rattle.calculus.specs.Bytes.{be32, joined}
use Rattle.calculus.specs.Shape.{count}
use Rattle.calculus.specs.Order.{byte_cmp, up_to, IsAscending}
use Rattle.calculus.specs.Code.{code, codes}
use Rattle.calculus.specs.Form.{Sort, Scope, Fits, Hold, all}
use Rattle.calculus.specs.Variables.{bound_all}
use Rattle.std.proofs.lemmas.Bool.{cases_Bool}
use Rattle.std.proofs.lemmas.Cmp.{ranked}
use Rattle.calculus.proofs.Ordered.{up_to_total}
use Rattle.calculus.proofs.ListCodes.{length-map}
use Rattle.code_faults.specs.Beginning.{Cuts, Begun, BegunRow, BegunBag, BegunNumber, Follows}
use Rattle.code_faults.proofs.Rows.{Row, last_of, last-more, ascending-more}
use Rattle.code_faults.proofs.Bags.{Bag}
use Rattle.code_faults.proofs.Begins.{first-cut, next-cut, byte-cut, none-cut, whole-cut, Good, good-more, good-append, good-fill, Filler}

pub count-list : (ts : List Tree) → count (trees ts) ≡ length ts
count-list [] = refl
count-list (t ∷ ts) = omega (arith, count-list ts)

pub length-fill : {A : Type 0} (n : ℕ) (x : A) → length (replicate n x) ≡ n
length-fill zero x = refl
length-fill (suc n) x = omega (arith, length-fill n x)

codes-append : (ts us : List Tree) → codes (trees (ts ++ us)) ≡ codes (trees ts) ++ codes (trees us)
codes-append [] us = refl
codes-append (t ∷ ts) us = ap (λ (cs : List (List ℕ)). code t ∷ cs) (codes-append ts us)

joined-append : (cs ds : List (List ℕ)) → joined (cs ++ ds) ≡ joined cs ++ joined ds
joined-append [] ds = refl
joined-append (c ∷ cs) ds = ap (λ (z : List ℕ). c ++ z) (joined-append cs ds) ∙ sym (append_assoc c (joined cs) (joined ds))

codes-map : {A : Type 0} (f : A → Tree) (xs : List A) → codes (trees (map f xs)) ≡ map (λ x. code (f x)) xs
codes-map f [] = refl
codes-map f (x ∷ xs) = ap (λ (cs : List (List ℕ)). code (f x) ∷ cs) (codes-map f xs)

joined-front : {A : Type 0} (f : A → Tree) (xs : List A) (us : List Tree) → joined (codes (trees (map f xs ++ us))) ≡ joined (map (λ x. code (f x)) xs) ++ joined (codes (trees us))
joined-front f xs us = ap joined (codes-append (map f xs) us) ∙ joined-append (codes (trees (map f xs))) (codes (trees us)) ∙ ap (λ (cs : List (List ℕ)). joined cs ++ joined (codes (trees us))) (codes-map f xs)

-- a number, trees that were read, one that is cut, and others
pub row-cut : {A : Type 0} {f : A → Tree} {s : Sort} {v : Scope} {room : ℕ} {xs : List A} {start now bs after : List ℕ} (n : ℕ) (t : Tree) (us : List Tree)
    → Row f s v room xs start now → bs ≡ be32 n ++ start → length xs + (1 + length us) ≡ n → Cuts now (code t) after
    → Cuts bs (be32 (count (trees (map f xs ++ t ∷ us))) ++ joined (codes (trees (map f xs ++ t ∷ us)))) after
row-cut {f = f} {xs = xs} {start = start} {bs = bs} {after = after} n t us h is m g =
    let ts = map f xs ++ t ∷ us in
    let k : count (trees ts) ≡ n = omega (arith, count-list ts, length-append (map f xs) (t ∷ us), length-map f xs, m) in
    let c : Cuts start (joined (codes (trees ts))) after = subst (λ (z : List ℕ). Cuts start z after) (sym (joined-front f xs (t ∷ us))) (next-cut (joined (map (λ x. code (f x)) xs)) h.is (first-cut (joined (codes (trees us))) g)) in
    subst (λ (z : ℕ). Cuts bs (be32 z ++ joined (codes (trees ts))) after) (sym k) (next-cut (be32 n) is c)

-- a constituent is cut
pub row-begun : {A : Type 0} {f : A → Tree} {b : Bool} {s : Sort} {v : Scope} {room : ℕ} {xs : List A} {start now bs after : List ℕ} (least most n : ℕ)
    → Row f s v room xs start now → (b ≡ false → bound_all (trees (map f xs)) ≡ []) → bs ≡ be32 n ++ start → least ≤ n → n ≤ most → length xs < n
    → Filler s v → Begun b s v room now after → BegunRow b s v room least most bs after
row-begun {f = f} {xs = xs} least most n h free is p q l k g =
    let others = replicate (n - length xs - 1) k.tree in
    let ts = map f xs ++ g.tree ∷ others in
    let few : length xs + (1 + length others) ≡ n = omega (arith, length-fill (n - length xs - 1) k.tree, l) in
    let good = good-append (map f xs) (record { fits = h.fits; low = h.low; free = free })
    (good-more g.tree g.fits g.low g.free (good-fill (n - length xs - 1) k.tree k.fits (omega (arith, k.low)) (λ z. k.free))) in
    let m : count (trees ts) ≡ n = omega (arith, count-list ts, length-append (map f xs) (g.tree ∷ others), length-map f xs, few) in
    record {
      trees = trees ts;
      fits = good.fits;
      low = good.low;
      free = good.free;
      enough = omega (arith, m, p);
      few = omega (arith, m, q);
      cut = row-cut n g.tree others h is few g.cut;
    }

-- the number is cut
pub number-begun : {b : Bool} {s : Sort} {v : Scope} {room least most : ℕ} {bs after : List ℕ} → BegunNumber least most bs after → Filler s v → BegunRow b s v room least most bs after
number-begun {b = b} {s = s} {v = v} {room = room} {bs = bs} {after = after} h k =
    let ts = replicate h.number k.tree in
    let good : Good b s v room ts = good-fill h.number k.tree k.fits (omega (arith, k.low)) (λ z. k.free) in
    let m : count (trees ts) ≡ h.number = omega (arith, count-list ts, length-fill h.number k.tree) in
    record {
      trees = trees ts;
      fits = good.fits;
      low = good.low;
      free = good.free;
      enough = omega (arith, m, h.enough);
      few = omega (arith, m, h.few);
      cut = subst (λ (z : ℕ). Cuts bs (be32 z ++ joined (codes (trees ts))) after) (sym m) (first-cut (joined (codes (trees ts))) h.cut);
    }

up_to-same : (c : List ℕ) → up_to c c ≡ true
up_to-same c = ⊎_elim (λ t. t) (λ f. up_to_total c c f) (cases_Bool (up_to c c))

pub below : (c : List ℕ) → up_to [] c ≡ true
below [] = refl
below (x ∷ xs) = refl

-- as many equal codes after ascending ones
ascending-fill : (n : ℕ) (cs : List (List ℕ)) (c : List ℕ) → IsAscending cs → up_to (last_of cs) c ≡ true → IsAscending (cs ++ replicate n c)
ascending-fill zero cs c h u = subst IsAscending (sym (append-nil cs)) h
ascending-fill (suc n) cs c h u =
    subst IsAscending (append_assoc cs (c ∷ []) (replicate n c))
    (ascending-fill n (cs ++ c ∷ []) c (ascending-more cs c h u) (subst (λ (z : List ℕ). up_to z c ≡ true) (sym (last-more cs c)) (up_to-same c)))

codes-fill : (n : ℕ) (t : Tree) → codes (trees (replicate n t)) ≡ replicate n (code t)
codes-fill zero t = refl
codes-fill (suc n) t = ap (λ (cs : List (List ℕ)). code t ∷ cs) (codes-fill n t)

-- a tree that goes on with ascending ones, and is cut
pub bag-begun_by : {A : Type 0} {f : A → Tree} {s : Sort} {v : Scope} {room : ℕ} {xs : List A} {start now last bs after : List ℕ} (n : ℕ) (t : Tree)
    → Bag f s v room xs start now last → bs ≡ be32 n ++ start → length xs < n → Fits s v t → height t ≤ room → up_to last (code t) ≡ true → Cuts now (code t) after → BegunBag s v room bs after
bag-begun_by {f = f} {s = s} {v = v} {room = room} {xs = xs} {last = last} n t h is l fits low u g =
    let others = replicate (n - length xs - 1) t in
    let ts = map f xs ++ t ∷ others in
    let few : length xs + (1 + length others) ≡ n = omega (arith, length-fill (n - length xs - 1) t, l) in
    let good : Good true s v room ts = good-append (map f xs) (record { fits = h.row.fits; low = h.row.low; free = λ q. absurd (no_false q) })
    (good-more t fits low (λ q. absurd (no_false q)) (good-fill (n - length xs - 1) t fits low (λ q. absurd (no_false q)))) in
    let cs = codes (trees (map f xs)) in
    let up : IsAscending (cs ++ replicate (suc (n - length xs - 1)) (code t)) = ascending-fill (suc (n - length xs - 1)) cs (code t) h.up (subst (λ (z : List ℕ). up_to z (code t) ≡ true) h.ends u) in
    record {
      trees = trees ts;
      fits = good.fits;
      low = good.low;
      up = subst IsAscending (sym (codes-append (map f xs) (t ∷ others) ∙ ap (λ (ds : List (List ℕ)). cs ++ code t ∷ ds) (codes-fill (n - length xs - 1) t))) up;
      cut = row-cut n t others h.row is few g;
    }
  where
    no_false : true ≡ false → ⊥
    no_false e = cc

follow-more : (a b : ℕ) (last bs : List ℕ) → nat_cmp a b ≡ Equal → Follows last bs → Follows (a ∷ last) (b ∷ bs)
follow-more a b last bs e (inl c) = inl (byte-cut a (ap (λ (z : ℕ). z ∷ bs) (sym (ranked a b Equal (sym e)))) c)
follow-more a b last bs e (inr f) = inr (λ x. ap (λ (o : Ordering). is_le (ordering_then o (byte_cmp last (bs ++ x)))) e ∙ f x)

by-order : (o : Ordering) → ((o ≡ Less) ⊎ (o ≡ Equal)) ⊎ (o ≡ Greater)
by-order Less = inl (inl refl)
by-order Equal = inl (inr refl)
by-order Greater = inr refl

-- bytes that do not fall below others as far as both go follow them
pub follows : (k : ℕ) (last bs : List ℕ) → k ≤ length last → k ≤ length bs → (k < length last → k < length bs → ⊥) → (byte_cmp (take k last) (take k bs) ≡ Greater → ⊥) → Follows last bs
follows k [] bs l m n g = inr (λ x. below (bs ++ x))
follows k (a ∷ last) [] l m n g = inl (none-cut (a ∷ last) (omega arith))
follows zero (a ∷ last) (b ∷ bs) l m n g = absurd (n (omega arith) (omega arith))
follows (suc k) (a ∷ last) (b ∷ bs) l m n g =
    let f = byte_cmp (take k last) (take k bs) in
    ⊎_elim
    (λ (h : (nat_cmp a b ≡ Less) ⊎ (nat_cmp a b ≡ Equal)). ⊎_elim
    (λ (e : nat_cmp a b ≡ Less). inr (λ x. ap (λ (o : Ordering). is_le (ordering_then o (byte_cmp last (bs ++ x)))) e))
    (λ (e : nat_cmp a b ≡ Equal). follow-more a b last bs e
    (follows k last bs (omega arith) (omega arith) (λ p q. n (omega (arith, p)) (omega (arith, q))) (λ w. g (ap (λ (o : Ordering). ordering_then o f) e ∙ w))))
    h)
    (λ (e : nat_cmp a b ≡ Greater). absurd (g (ap (λ (o : Ordering). ordering_then o f) e)))
    (by-order (nat_cmp a b))

-- as do their fronts
follows-front : (last before more : List ℕ) → up_to last (before ++ more) ≡ true → Follows last before
follows-front [] before more u = inr (λ x. below (before ++ x))
follows-front (a ∷ last) [] more u = inl (none-cut (a ∷ last) (omega arith))
follows-front (a ∷ last) (b ∷ before) more u = ⊎_elim
    (λ (h : (nat_cmp a b ≡ Less) ⊎ (nat_cmp a b ≡ Equal)). ⊎_elim
    (λ (e : nat_cmp a b ≡ Less). inr (λ x. ap (λ (o : Ordering). is_le (ordering_then o (byte_cmp last (before ++ x)))) e))
    (λ (e : nat_cmp a b ≡ Equal). follow-more a b last before e
    (follows-front last before more (sym (ap (λ (o : Ordering). is_le (ordering_then o (byte_cmp last (before ++ more)))) e) ∙ u)))
    h)
    (λ (e : nat_cmp a b ≡ Greater). absurd (true-false (sym u ∙ ap (λ (o : Ordering). is_le (ordering_then o (byte_cmp last (before ++ more)))) e)))
    (by-order (nat_cmp a b))
  where
    true-false : true ≡ false → ⊥
    true-false e = cc

pub follows-before : (last before after bs : List ℕ) → before ++ after ≡ bs → Follows last bs → Follows last before
follows-before last before after bs e (inl c) =
    inl (whole-cut before (after ++ c.more) last (sym (append_assoc before after c.more) ∙ ap (λ (z : List ℕ). z ++ c.more) (e ∙ sym c.is ∙ append-nil c.before) ∙ c.goes) (omega (arith, c.some, length-append after c.more)))
follows-before last before after bs e (inr f) =
    follows-front last before (after ++ []) (ap (λ (z : List ℕ). up_to last z) (sym (append_assoc before after []) ∙ ap (λ (z : List ℕ). z ++ []) e) ∙ f [])

-- the last of some trees
record Last (s : Sort) (v : Scope) (room : ℕ) (last : List ℕ) : Type 0 where
  pub tree : Tree
  pub fits : Fits s v tree
  pub low : height tree ≤ room
  pub is : last ≡ code tree

last-tree : (s : Sort) (v : Scope) (room : ℕ) (ts : List Tree) → Hold (all s) v [] (trees ts) → heights (trees ts) ≤ room → 0 < length (last_of (codes (trees ts))) → Last s v room (last_of (codes (trees ts)))
last-tree s v room [] h l p = absurd (omega arith)
last-tree s v room (t ∷ []) h l p = record { tree = t; fits = h.0; low = omega (arith, l); is = refl }
last-tree s v room (t ∷ u ∷ ts) h l p = last-tree s v room (u ∷ ts) h.1 (omega (arith, l)) p

-- a constituent is cut, and its bytes do not fall below the one before it
pub bag-begun_at : {A : Type 0} {f : A → Tree} {b : Bool} {s : Sort} {v : Scope} {room : ℕ} {xs : List A} {start now last bs after : List ℕ} (n : ℕ)
    → Bag f s v room xs start now last → bs ≡ be32 n ++ start → length xs < n → (g : Begun b s v room now after) → Follows last g.cut.before → BegunBag s v room bs after
bag-begun_at {f = f} {s = s} {v = v} {room = room} {xs = xs} {last = last} n h is l g (inl c) =
    let some : 0 < length last = omega (arith, ap length c.goes, length-append c.before c.more, c.some) in
    let e = last-tree s v room (map f xs) h.row.fits h.row.low (subst (λ (z : List ℕ). 0 < length z) h.ends some) in
    let same : last ≡ code e.tree = h.ends ∙ e.is in
    let front : g.cut.before ++ c.more ≡ code e.tree = ap (λ (z : List ℕ). z ++ c.more) (sym c.is ∙ append-nil c.before) ∙ c.goes ∙ same in
    bag-begun_by n e.tree h is l e.fits e.low (subst (λ (z : List ℕ). up_to last z ≡ true) same (up_to-same last)) (record { before = g.cut.before; is = g.cut.is; more = c.more; goes = front; some = c.some })
bag-begun_at {last = last} n h is l g (inr u) =
    bag-begun_by n g.tree h is l g.fits g.low (subst (λ (z : List ℕ). up_to last z ≡ true) g.cut.goes (u g.cut.more)) g.cut

pub bag-begun : {A : Type 0} {f : A → Tree} {b : Bool} {s : Sort} {v : Scope} {room : ℕ} {xs : List A} {start now last bs after : List ℕ} (n : ℕ)
    → Bag f s v room xs start now last → bs ≡ be32 n ++ start → length xs < n → Follows last now → Begun b s v room now after → BegunBag s v room bs after
bag-begun {now = now} {last = last} {after = after} n h is l fo g = bag-begun_at n h is l g (follows-before last g.cut.before after now g.cut.is fo)

pub number-begun_bag : {s : Sort} {v : Scope} {room : ℕ} {bs after : List ℕ} (n : ℕ) (k : Filler s v) → Cuts bs (be32 n) after → BegunBag s v room bs after
number-begun_bag {s = s} {v = v} {room = room} {bs = bs} {after = after} n k h =
    let ts = replicate n k.tree in
    let good : Good false s v room ts = good-fill n k.tree k.fits (omega (arith, k.low)) (λ z. k.free) in
    let m : count (trees ts) ≡ n = omega (arith, count-list ts, length-fill n k.tree) in
    record {
      trees = trees ts;
      fits = good.fits;
      low = good.low;
      up = subst IsAscending (sym (codes-fill n k.tree)) (ascending-fill n [] (code k.tree) tt (below (code k.tree)));
      cut = subst (λ (z : ℕ). Cuts bs (be32 z ++ joined (codes (trees ts))) after) (sym m) (first-cut (joined (codes (trees ts))) h);
    }
