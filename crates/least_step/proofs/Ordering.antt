-- Rows that are sorted by their ids ascend where no two ids are equal.
use Rattle.std.proofs.Common.{◌≡◌, ℕ, suc, Bool, true, false, not, ◌&&◌, ◌||◌, List, [], ◌∷◌, map as each, All, refl, ap, sym, ◌∙◌, subst, arith, add-one}
use Rattle.std.specs.Borrow.{Bor}
use Rattle.std.specs.Prelude.{⊤, IsPermutation}
use Rattle.std.specs.Str.{bytes_eq}
use Rattle.std.specs.List.Sorted.{IsSortedBy}
use Rattle.std.specs.Ordering.{is_lt, is_le, ordering_reverse}
use Rattle.std.specs.declared.cmp.Ordering.{Ordering}
use Rattle.std.specs.declared.cmp.Ordering.TheVariants.{Less, Equal, Greater}
use Rattle.std.proofs.lemmas.Cmp.{nat_list_cmp_total}
use Rattle.std.proofs.lemmas.List.Elements.{All-nil, All-cons, All-weaker}
use Rattle.std.proofs.lemmas.List.Sorted.{IsPermutation-map}
use Rattle.calculus.specs.Order.{up_to, byte_cmp}
use Rattle.calculus.specs.Rows.{Row}
use Rattle.calculus.specs.Steps.{is_one_of, differ}
use Rattle.calculus.proofs.Ordered.{up_to_trans}
use Rattle.events.proofs.Counts.{AreDistinct, differ-distinct, distinct-differ}
use Rattle.events.proofs.Orders.{times-moved}
use Rattle.least_step.specs.Orders.{ids_of, referred, AreAscending}

turned : (o : Ordering) → not (is_lt o) ≡ is_le (ordering_reverse o)
turned Less = refl
turned Equal = refl
turned Greater = refl

-- not less is no greater, the other way round
not_low : (a b : List ℕ) → not (is_lt (byte_cmp a b)) ≡ up_to b a
not_low a b = turned (byte_cmp a b) ∙ sym (ap is_le (nat_list_cmp_total.antisymm b a))

-- the id of a row behind a reference
abbrev pub id_at : Bor Row → List ℕ
id_at r = r.now.id

-- whether its id is less
abbrev pub low : Bor Row → Bor Row → Bool
low x y = is_lt (byte_cmp (id_at x) (id_at y))

tail : (x : Bor Row) (xs : List (Bor Row)) → IsSortedBy low (x ∷ xs) → IsSortedBy low xs
tail x xs s i d least high =
    let e = s (suc i) d (omega arith) (omega arith) in
    rw add-one (rw add-one at e)

-- each id is no greater than those after it
abbrev pub AreRising : List Row → Type 0
AreRising [] = ⊤
AreRising (r ∷ rs) = All (λ q. up_to r.id q.id ≡ true) rs × AreRising rs

rising : (xs : List (Bor Row)) → IsSortedBy low xs → AreRising (each referred xs)
rising [] s = tt
rising (x ∷ []) s = (All-nil (λ q. up_to x.now.id q.id ≡ true), tt)
rising (x ∷ y ∷ ys) s =
    let next = rising (y ∷ ys) (tail x (y ∷ ys) s) in
    let first : up_to x.now.id y.now.id ≡ true = sym (not_low (id_at y) (id_at x)) ∙ ap not (s 0 x (omega arith) (omega arith)) in (
      All-cons (λ q. up_to x.now.id q.id ≡ true) y.now (each referred ys) first
          (All-weaker (λ q. up_to y.now.id q.id ≡ true) (λ q. up_to x.now.id q.id ≡ true) (λ q h. up_to_trans x.now.id y.now.id q.id first h) (each referred ys) next.0),
      next,
    )

apart : (x : List ℕ) (rs : List Row) → is_one_of x (ids_of rs) ≡ false → All (λ q. bytes_eq x q.id ≡ false) rs
apart x [] h = All-nil (λ q. bytes_eq x q.id ≡ false)
apart x (r ∷ rs) h = go (apart x rs) (bytes_eq x r.id) refl h
  where
    go : (is_one_of x (ids_of rs) ≡ false → All (λ q. bytes_eq x q.id ≡ false) rs) → (b : Bool) → bytes_eq x r.id ≡ b → b || is_one_of x (ids_of rs) ≡ false → All (λ q. bytes_eq x q.id ≡ false) (r ∷ rs)
    go next true e h = cc
    go next false e h = All-cons (λ q. bytes_eq x q.id ≡ false) r rs e (next h)

both : {A : Type 0} (P Q : A → Type 0) (xs : List A) → All P xs → All Q xs → All (λ x. P x × Q x) xs
both P Q xs p q k d h = (p k d h, q k d h)

pub strictly : (rs : List Row) → AreRising rs → differ (ids_of rs) ≡ true → AreAscending rs
strictly [] a d = tt
strictly (r ∷ rs) a d = go (strictly rs a.1) (is_one_of r.id (ids_of rs)) refl d
  where
    go : (differ (ids_of rs) ≡ true → AreAscending rs) → (b : Bool) → is_one_of r.id (ids_of rs) ≡ b → not b && differ (ids_of rs) ≡ true → AreAscending (r ∷ rs)
    go next true e h = cc
    go next false e h = (both (λ q. bytes_eq r.id q.id ≡ false) (λ q. up_to r.id q.id ≡ true) rs (apart r.id rs e) a.0, next h)

-- differing ids differ in any order
pub differ-moved : (rs qs : List Row) → IsPermutation rs qs → differ (ids_of rs) ≡ true → differ (ids_of qs) ≡ true
differ-moved rs qs p d =
    let one : AreDistinct (ids_of rs) = differ-distinct (ids_of rs) d in
    distinct-differ (ids_of qs) (λ x. omega (arith, one x, times-moved x p))

-- the rows behind references are moved as these are
pub moved-rows : (xs ys : List (Bor Row)) (rs : List Row) → each referred xs ≡ rs → IsPermutation xs ys → IsPermutation rs (each referred ys)
moved-rows xs ys rs e p = subst (λ (l : List Row). IsPermutation l (each referred ys)) e (IsPermutation-map referred xs ys p)

pub sorted : (xs ys : List (Bor Row)) (rs : List Row) → each referred xs ≡ rs → IsPermutation xs ys → IsSortedBy low ys → differ (ids_of rs) ≡ true → AreAscending (each referred ys)
sorted xs ys rs e p s d = strictly (each referred ys) (rising ys s) (differ-moved rs (each referred ys) (moved-rows xs ys rs e p) d)
