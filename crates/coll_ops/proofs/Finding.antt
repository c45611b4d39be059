-- Finding keys in lists that ascend, from a place on.
use Rattle.std.proofs.Common.{◌≡◌, ℕ, zero, suc, ◌+◌, ◌-◌, ◌<◌, ◌≤◌, true, false, ◌||◌, List, [], ◌∷◌, ◌++◌, length, get_or, drop, take, refl, sym, ap, ◌∙◌, subst, inl, inr, arith}
use Rattle.std.proofs.lemmas.List.{at_drop_more, at_drop_all}
use Rattle.std.proofs.lemmas.Bool.{cases_Bool, cond-true, cond-false, or_left, or_from, false≢true}
use Rattle.std.specs.declared.cmp.Ordering.{Ordering}
use Rattle.std.specs.declared.cmp.Ordering.TheVariants.{Less, Equal, Greater}
use Rattle.std.proofs.lemmas.Cmp.{nat_list_cmp_total}
use Rattle.std.specs.Ordering.{is_ge, is_le, ordering_reverse}
use Rattle.calculus.specs.Order.{up_to, byte_cmp}
use Rattle.calculus.proofs.Ordered.{up_to_both, up_to_trans}
use Rattle.code_order.proofs.Keys.{Up}
use Rattle.coll_ops.specs.Keys.{same, has_key}
use Rattle.coll_ops.specs.Merging.{low, high, starts, ends, put_last, put_all}
use Rattle.coll_ops.proofs.Merging.{same-self, same-turned, one, apart}

turned : (o : Ordering) → is_ge (ordering_reverse o) ≡ is_le o
turned Less = refl
turned Equal = refl
turned Greater = refl

-- no less is up to, the other way round
pub ge_is : (a b : List ℕ) (o : Ordering) → o ≡ byte_cmp a b → is_ge o ≡ up_to b a
ge_is a b o e = ap is_ge (e ∙ nat_list_cmp_total.antisymm a b) ∙ turned (byte_cmp b a)

module _ {X : Type 0} (k : X → List ℕ) where
  -- a key above another is looked for after it
  pub high-high : (a b : List ℕ) (ys : List X) → up_to a b ≡ true → high k b (high k a ys) ≡ high k b ys
  high-high a b [] e = refl
  high-high a b (y ∷ ys) e =
      elim (cases_Bool (up_to a (k y))) [
        | inl f ↦ ap (high k b) (cond-true (up_to a (k y)) (y ∷ ys) (high k a ys) f)
        | inr f ↦
            let n : up_to b (k y) ≡ false = elim (cases_Bool (up_to b (k y))) [
              | inl g ↦ absurd (false≢true (sym f ∙ up_to_trans a b (k y) e g))
              | inr g ↦ g
            ] in
            ap (high k b) (cond-false (up_to a (k y)) (y ∷ ys) (high k a ys) f) ∙ high-high a b ys e ∙ sym (cond-false (up_to b (k y)) (y ∷ ys) (high k b ys) n)
      ]

  -- nothing above a greater key has this one
  pub none-above : (c : List ℕ) (y : X) (ys : List X) → Up k (y ∷ ys) → up_to c (k y) ≡ true → same (k y) c ≡ false → has_key k c ys ≡ false
  none-above c y [] u e n = refl
  none-above c y (w ∷ ws) u e n =
      let m : same (k w) c ≡ false = elim (cases_Bool (same (k w) c)) [
        | inr g ↦ g
        | inl g ↦
            let b : up_to (k y) c ≡ true = subst (λ x. up_to (k y) x ≡ true) (one (k w) c g) u.0 in
            let s : k y ≡ c = up_to_both (k y) c b e in
            absurd (false≢true (sym n ∙ subst (λ x. same x c ≡ true) (sym s) (same-self c)))
      ] in
      or_from _ _ m (none-above c w ws u.1 (up_to_trans c (k y) (k w) e u.0) m)

  -- a key is among ascending ones where the first that is not less has it
  pub has-high : (c : List ℕ) (ys : List X) → Up k ys → has_key k c ys ≡ starts k c (high k c ys)
  has-high c [] u = refl
  has-high c (y ∷ ys) u =
      elim (cases_Bool (up_to c (k y))) [
        | inl f ↦
            elim (cases_Bool (same (k y) c)) [
              | inl g ↦ or_left _ _ g ∙ sym (ap (starts k c) (cond-true (up_to c (k y)) (y ∷ ys) (high k c ys) f) ∙ g)
              | inr g ↦ or_from _ _ g (none-above c y ys u f g) ∙ sym (ap (starts k c) (cond-true (up_to c (k y)) (y ∷ ys) (high k c ys) f) ∙ g)
            ]
        | inr f ↦
            ap (λ b. b || has_key k c ys) (same-turned (k y) c ∙ apart c (k y) f) ∙ has-high c ys u.1 ∙ sym (ap (starts k c) (cond-false (up_to c (k y)) (y ∷ ys) (high k c ys) f))
      ]

  -- one place further
  module _ (c : List ℕ) (xs : List X) (i : ℕ) (x : X) (h : i < length xs) (g : x ≡ get_or xs i x) where
    pub drop-read : drop i xs ≡ x ∷ drop (i + 1) xs
    drop-read = at_drop_more (λ l. l) xs i x h ∙ ap (λ y. y ∷ drop (i + 1) xs) (sym g)

    pub high-past : up_to c (k x) ≡ false → high k c (drop (i + 1) xs) ≡ high k c (drop i xs)
    high-past e = sym (ap (high k c) drop-read ∙ cond-false (up_to c (k x)) (x ∷ drop (i + 1) xs) (high k c (drop (i + 1) xs)) e)

    pub high-here : up_to c (k x) ≡ true → drop i xs ≡ high k c (drop i xs)
    high-here e = drop-read ∙ sym (ap (high k c) drop-read ∙ cond-true (up_to c (k x)) (x ∷ drop (i + 1) xs) (high k c (drop (i + 1) xs)) e)

    pub low-past : (zs : List X) → up_to c (k x) ≡ false → put_all k (put_last k zs x) (low k c (drop (i + 1) xs)) ≡ put_all k zs (low k c (drop i xs))
    low-past zs e = sym (ap (put_all k zs) (ap (low k c) drop-read ∙ cond-false (up_to c (k x)) [] (x ∷ low k c (drop (i + 1) xs)) e))

    pub low-here : (zs : List X) → up_to c (k x) ≡ true → zs ≡ put_all k zs (low k c (drop i xs))
    low-here zs e = sym (ap (put_all k zs) (ap (low k c) drop-read ∙ cond-true (up_to c (k x)) [] (x ∷ low k c (drop (i + 1) xs)) e))

    pub starts-here : starts k c (drop i xs) ≡ same (k x) c
    starts-here = ap (starts k c) drop-read

  pub high-none : (c : List ℕ) (xs : List X) (i : ℕ) → length xs ≤ i → drop (length xs) xs ≡ high k c (drop i xs)
  high-none c xs i h = at_drop_all (λ l. l) xs (length xs) (omega arith) ∙ sym (at_drop_all (high k c) xs i h)

  pub low-none : (c : List ℕ) (xs zs : List X) (i : ℕ) → length xs ≤ i → zs ≡ put_all k zs (low k c (drop i xs))
  low-none c xs zs i h = sym (at_drop_all (λ l. put_all k zs (low k c l)) xs i h)

  pub starts-none : (c : List ℕ) (xs : List X) (i : ℕ) → length xs ≤ i → starts k c (drop i xs) ≡ false
  starts-none c xs i h = at_drop_all (starts k c) xs i h

  pub ends-at : (c : List ℕ) (xs : List X) (n : ℕ) (x : X) → n + 1 ≡ length xs → x ≡ get_or xs n x → same (k x) c ≡ ends k c xs
  ends-at c [] n x h g = absurd (omega arith)
  ends-at c (z ∷ []) zero x h g = ap (λ y. same (k y) c) g
  ends-at c (z ∷ []) (suc n) x h g = absurd (omega arith)
  ends-at c (z ∷ w ∷ zs) zero x h g = absurd (omega arith)
  ends-at c (z ∷ w ∷ zs) (suc n) x h g = ends-at c (w ∷ zs) n x (omega arith) g

  -- at the end, where the last has another key
  pub last-added : (zs : List X) (x : X) → ends k (k x) zs ≡ false → zs ++ x ∷ [] ≡ put_last k zs x
  last-added [] x e = refl
  last-added (z ∷ []) x e = sym (cond-false _ _ _ e)
  last-added (z ∷ w ∷ zs) x e = ap (λ l. z ∷ l) (last-added (w ∷ zs) x e)

  -- in place of the last
  last-replaced : (zs : List X) (x : X) (n : ℕ) → ends k (k x) zs ≡ true → n + 1 ≡ length zs → take n zs ++ x ∷ [] ≡ put_last k zs x
  last-replaced [] x n e h = absurd (omega arith)
  last-replaced (z ∷ []) x zero e h = sym (cond-true _ _ _ e)
  last-replaced (z ∷ []) x (suc n) e h = absurd (omega arith)
  last-replaced (z ∷ w ∷ zs) x zero e h = absurd (omega arith)
  last-replaced (z ∷ w ∷ zs) x (suc n) e h = ap (λ l. z ∷ l) (last-replaced (w ∷ zs) x n e (omega arith))

  ends-some : (c : List ℕ) (xs : List X) → ends k c xs ≡ true → length xs - 1 + 1 ≡ length xs
  ends-some c [] e = absurd (false≢true e)
  ends-some c (x ∷ xs) e = omega arith

  pub put-popped : (zs ws : List X) (x : X) → ends k (k x) zs ≡ true → ws ≡ take (length zs - 1) zs → ws ++ x ∷ [] ≡ put_last k zs x
  put-popped zs ws x e f = ap (λ l. l ++ x ∷ []) f ∙ last-replaced zs x (length zs - 1) e (ends-some (k x) zs e)

  -- where a place has this key, it is one of the list
  pub place-in : (c : List ℕ) (xs : List X) (i : ℕ) → starts k c (drop i xs) ≡ true → i < length xs
  place-in c [] zero e = absurd (false≢true e)
  place-in c [] (suc i) e = absurd (false≢true e)
  place-in c (x ∷ xs) zero e = omega arith
  place-in c (x ∷ xs) (suc i) e = omega (arith, place-in c xs i e)
