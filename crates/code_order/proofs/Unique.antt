-- Of one list there is one stable order by keys.
use Rattle.std.proofs.Common.{◌≡◌, ℕ, suc, Bool, true, false, not, ◌&&◌, cond, inl, inr, List, [], ◌∷◌, map, refl, ap, sym, ◌∙◌, subst, arith, add-one}
use Rattle.std.proofs.lemmas.Bool.{cond-true, cond-false, cases_Bool, and_parts}
use Rattle.std.proofs.lemmas.Cmp.{nat_list_cmp_total}
use Rattle.std.specs.List.{filter}
use Rattle.std.specs.List.Sorted.{ties, IsSortedBy, IsStableBy}
use Rattle.std.specs.Ordering.{is_lt, is_le, ordering_reverse}
use Rattle.std.specs.declared.cmp.Ordering.{Ordering}
use Rattle.std.specs.declared.cmp.Ordering.TheVariants.{Less, Equal, Greater}
use Rattle.calculus.specs.Order.{up_to, byte_cmp}
use Rattle.calculus.specs.Tree.{Tree}
use Rattle.calculus.specs.Code.{code}
use Rattle.calculus.specs.Normal.{arranged_by, ascending}
use Rattle.calculus.proofs.Ordered.{up_to_total, up_to_both, up_to_trans}
use Rattle.code_order.proofs.Keys.{map-self, put_in, sort_in, Up, put-none, put-front, put-further, sort-none, sort-cons, up-sort, arranged-with}

turned : (o : Ordering) → not (is_lt o) ≡ is_le (ordering_reverse o)
turned Less = refl
turned Equal = refl
turned Greater = refl

-- not less is no greater, the other way round
not_low : (a b : List ℕ) → not (is_lt (byte_cmp a b)) ≡ up_to b a
not_low a b = turned (byte_cmp a b) ∙ sym (ap is_le (nat_list_cmp_total.antisymm b a))

up_to_same : (a : List ℕ) → up_to a a ≡ true
up_to_same a = elim (cases_Bool (up_to a a)) [ inl e ↦ e | inr e ↦ up_to_total a a e ]

filter-kept : {X : Type 0} (p : X → Bool) (y : X) (ys : List X) → p y ≡ true → filter p (y ∷ ys) ≡ y ∷ filter p ys
filter-kept p y ys h = cond-true _ _ _ h

filter-dropped : {X : Type 0} (p : X → Bool) (y : X) (ys : List X) → p y ≡ false → filter p (y ∷ ys) ≡ filter p ys
filter-dropped p y ys h = cond-false _ _ _ h

filter-tails : {X : Type 0} (p : X → Bool) (y z : X) (ys zs : List X) → y ≡ z → filter p (y ∷ ys) ≡ filter p (z ∷ zs) → filter p ys ≡ filter p zs
filter-tails p y z ys zs same e =
    elim (cases_Bool (p y)) [
      | inl kept ↦
          let a = filter-kept p y ys kept in
          let b = filter-kept p z zs (sym (ap p same) ∙ kept) in
          cc
      | inr out ↦ sym (filter-dropped p y ys out) ∙ e ∙ filter-dropped p z zs (sym (ap p same) ∙ out)
    ]

module _ {X : Type 0} (k : X → List ℕ) where
  abbrev pub low : X → X → Bool
  low x y = is_lt (byte_cmp (k x) (k y))

  tie_as : (x y : X) → ties low x y ≡ (up_to (k y) (k x) && up_to (k x) (k y))
  tie_as x y = rw (not_low (k x) (k y), not_low (k y) (k x)) refl

  one_key : (x y : X) → ties low x y ≡ true → k x ≡ k y
  one_key x y e =
      let both = and_parts _ _ (sym (tie_as x y) ∙ e) in
      up_to_both (k x) (k y) both.1 both.0

  tie_from : (x y : X) → k x ≡ k y → ties low x y ≡ true
  tie_from x y e =
      let a : up_to (k y) (k x) ≡ true = subst (λ c. up_to c (k x) ≡ true) e (up_to_same (k x)) in
      let b : up_to (k x) (k y) ≡ true = subst (λ c. up_to (k x) c ≡ true) e (up_to_same (k x)) in
      tie_as x y ∙ rw (a, b) refl

  apart : (z y : X) → up_to (k y) (k z) ≡ false → ties low z y ≡ false
  apart z y e =
      elim (cases_Bool (ties low z y)) [
        | inl t ↦
            let s : up_to (k y) (k z) ≡ true = subst (λ c. up_to (k y) c ≡ true) (sym (one_key z y t)) (up_to_same (k y)) in
            cc
        | inr f ↦ f
      ]

  -- nothing that stands above a thing ties with it
  none : (z y : X) (ys : List X) → Up k (y ∷ ys) → up_to (k y) (k z) ≡ false → filter (ties low z) (y ∷ ys) ≡ []
  none z y [] u e = filter-dropped (ties low z) y [] (apart z y e)
  none z y (w ∷ ws) u e =
      let f : up_to (k w) (k z) ≡ false = elim (cases_Bool (up_to (k w) (k z))) [
        | inl t ↦
            let s = up_to_trans (k y) (k w) (k z) u.0 t in
            cc
        | inr f ↦ f
      ] in
      filter-dropped (ties low z) y (w ∷ ws) (apart z y e) ∙ none z w ws u.1 f

  unique : (ys zs : List X) → Up k ys → Up k zs → ((x : X) → filter (ties low x) ys ≡ filter (ties low x) zs) → ys ≡ zs
  unique [] [] u v e = refl
  unique [] (z ∷ zs) u v e =
      let a = filter-kept (ties low z) z zs (tie_from z z refl) in
      let b = e z in
      cc
  unique (y ∷ ys) [] u v e =
      let a = filter-kept (ties low y) y ys (tie_from y y refl) in
      let b = e y in
      cc
  unique (y ∷ ys) (z ∷ zs) u v e =
      elim (cases_Bool (up_to (k y) (k z))) [
        | inr f ↦
            let n = none z y ys u f in
            let a = filter-kept (ties low z) z zs (tie_from z z refl) in
            let b = e z in
            cc
        | inl t ↦
            elim (cases_Bool (up_to (k z) (k y))) [
              | inr f ↦
                  let n = none y z zs v f in
                  let a = filter-kept (ties low y) y ys (tie_from y y refl) in
                  let b = e y in
                  cc
              | inl s ↦
                  let a = filter-kept (ties low y) y ys (tie_from y y refl) in
                  let b = filter-kept (ties low y) z zs (tie_from y z (up_to_both (k y) (k z) t s)) in
                  let c = e y in
                  let head : y ≡ z = cc in
                  let tail : ys ≡ zs = unique ys zs u.1 v.1 (λ x. filter-tails (ties low x) y z ys zs head (e x)) in
                  cc
            ]
      ]

  filter-put : (x c : X) (ds : List X) → filter (ties low x) (put_in k c ds) ≡ filter (ties low x) (c ∷ ds)
  filter-put x c [] = ap (filter (ties low x)) (put-none k c)
  filter-put x c (d ∷ ds) =
      let p = ties low x in
      elim (cases_Bool (up_to (k c) (k d))) [
        | inl first ↦ ap (filter p) (put-front k c d ds first)
        | inr past ↦
            ap (filter p) (put-further k c d ds past) ∙ elim (cases_Bool (p d)) [
              | inr without ↦
                  filter-dropped p d (put_in k c ds) without ∙ filter-put x c ds
                  ∙ ap (λ l. cond (p c) (c ∷ l) l) (sym (filter-dropped p d ds without))
              | inl with ↦
                  elim (cases_Bool (p c)) [
                    | inl both ↦
                        let s : up_to (k c) (k d) ≡ true = subst (λ a. up_to (k c) a ≡ true) (sym (one_key x c both) ∙ one_key x d with) (up_to_same (k c)) in
                        cc
                    | inr only ↦
                        filter-kept p d (put_in k c ds) with ∙ ap (λ l. d ∷ l) (filter-put x c ds ∙ filter-dropped p c ds only)
                        ∙ sym (filter-dropped p c (d ∷ ds) only ∙ filter-kept p d ds with)
                  ]
            ]
      ]

  filter-sort : (x : X) (cs : List X) → filter (ties low x) (sort_in k cs) ≡ filter (ties low x) cs
  filter-sort x [] = ap (filter (ties low x)) (sort-none k)
  filter-sort x (c ∷ cs) =
      ap (filter (ties low x)) (sort-cons k c cs) ∙ filter-put x c (sort_in k cs)
      ∙ ap (λ l. cond (ties low x c) (c ∷ l) l) (filter-sort x cs)

  sorted-tail : (x : X) (xs : List X) → IsSortedBy low (x ∷ xs) → IsSortedBy low xs
  sorted-tail x xs s i d least high =
      let e = s (suc i) d (omega arith) (omega arith) in
      rw add-one (rw add-one at e)

  up-from : (xs : List X) → IsSortedBy low xs → Up k xs
  up-from [] s = tt
  up-from (x ∷ []) s = (tt, tt)
  up-from (x ∷ y ∷ ys) s =
      (sym (not_low (k y) (k x)) ∙ ap not (s 0 x (omega arith) (omega arith)), up-from (y ∷ ys) (sorted-tail x (y ∷ ys) s))

  -- what a stable sort by keys gives is what the definitions arrange by keys
  pub arranged : {Y : Type 0} (g : X → Y) (xs ys : List X) → IsSortedBy low ys → IsStableBy low xs ys → map g ys ≡ arranged_by (map (λ y. (k y, g y)) xs)
  arranged g xs ys up stable =
      ap (map g) (unique ys (sort_in k xs) (up-from ys up) (up-sort k xs) (λ x. stable x ∙ sym (filter-sort x xs))) ∙ sym (arranged-with k g xs)

-- what a stable sort by codes gives is what the definitions arrange by codes
pub ascends-stably : (ts us : List Tree) → IsSortedBy (low code) us → IsStableBy (low code) ts us → us ≡ ascending ts
unfolding ascending
ascends-stably ts us up stable = sym (map-self us) ∙ arranged code (λ t. t) ts us up stable
