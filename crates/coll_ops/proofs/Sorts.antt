-- Lists in one order by two keys.
use Rattle.std.proofs.Common.{◌≡◌, ℕ, Bool, true, false, cond, ◌||◌, List, [], ◌∷◌, refl, sym, ap, ◌∙◌, subst, inl, inr}
use Rattle.std.specs.Prelude.{⊤}
use Rattle.std.proofs.lemmas.Bool.{cases_Bool, or_parts, or_left}
use Rattle.calculus.specs.Order.{up_to}
use Rattle.code_order.proofs.Keys.{put_in, sort_in, put-none, put-front, put-further, sort-none, sort-cons}
use Rattle.coll_ops.specs.Keys.{same, has_key, last_each}
use Rattle.coll_ops.proofs.Merging.{same-turned, one, has-sort, kept-kept, kept-dropped}

module _ {X : Type 0} (P : X → Type 0) where
  -- each of these has the property
  abbrev pub Each : List X → Type 0
  Each [] = ⊤
  Each (x ∷ xs) = P x × Each xs

  each-put : (k : X → List ℕ) (x : X) (ys : List X) → P x → Each ys → Each (put_in k x ys)
  unfolding put_in
  each-put k x [] h r = (h, tt)
  each-put k x (y ∷ ys) h r = elim (up_to (k x) (k y)) as (λ (b : Bool). Each (cond b (x ∷ y ∷ ys) (y ∷ put_in k x ys))) [ true ↦ (h, r) | false ↦ (r.0, each-put k x ys h r.1) ]

  pub each-sort : (k : X → List ℕ) (xs : List X) → Each xs → Each (sort_in k xs)
  unfolding sort_in
  each-sort k [] r = tt
  each-sort k (x ∷ xs) r = each-put k x (sort_in k xs) r.0 (each-sort k xs r.1)

  pub each-kept : (k : X → List ℕ) (xs : List X) → Each xs → Each (last_each k xs)
  each-kept k [] r = tt
  each-kept k (x ∷ xs) r = elim (has_key k (k x) xs) as (λ (b : Bool). Each (cond b (last_each k xs) (x ∷ last_each k xs))) [ true ↦ each-kept k xs r.1 | false ↦ (r.0, each-kept k xs r.1) ]

-- things whose greater keys go by lesser ones, where these differ
module _ {X : Type 0} (k m : X → List ℕ) (P : X → Type 0) (f : (x y : X) → P x → P y → same (k x) (k y) ≡ false → up_to (m x) (m y) ≡ up_to (k x) (k y)) where
  put-same : (x : X) (ys : List X) → P x → Each P ys → has_key k (k x) ys ≡ false → put_in m x ys ≡ put_in k x ys
  put-same x [] h r n = put-none m x ∙ sym (put-none k x)
  put-same x (y ∷ ys) h r n =
      let p = or_parts (same (k y) (k x)) (has_key k (k x) ys) n in
      let e = f x y h r.0 (same-turned (k x) (k y) ∙ p.0) in
      elim (cases_Bool (up_to (k x) (k y))) [
        | inl t ↦ put-front m x y ys (e ∙ t) ∙ sym (put-front k x y ys t)
        | inr t ↦ put-further m x y ys (e ∙ t) ∙ ap (λ l. y ∷ l) (put-same x ys h r.1 p.1) ∙ sym (put-further k x y ys t)
      ]

  has-kept : (c : List ℕ) (xs : List X) → has_key k c (last_each k xs) ≡ has_key k c xs
  has-kept c [] = refl
  has-kept c (x ∷ xs) =
      elim (cases_Bool (has_key k (k x) xs)) [
        | inr t ↦ ap (has_key k c) (kept-kept k x xs t) ∙ ap (λ b. same (k x) c || b) (has-kept c xs)
        | inl t ↦
            ap (has_key k c) (kept-dropped k x xs t) ∙ has-kept c xs ∙ elim (cases_Bool (same (k x) c)) [
              | inl s ↦ subst (λ d. has_key k d xs ≡ true) (one (k x) c s) t ∙ sym (or_left _ _ s)
              | inr s ↦ sym (ap (λ b. b || has_key k c xs) s)
            ]
      ]

  -- of each key the last, in one order or in the other
  pub sort-same : (xs : List X) → Each P xs → sort_in m (last_each k xs) ≡ sort_in k (last_each k xs)
  sort-same [] r = sort-none m ∙ sym (sort-none k)
  sort-same (x ∷ xs) r =
      let l = last_each k xs in
      elim (cases_Bool (has_key k (k x) xs)) [
        | inl t ↦ ap (sort_in m) (kept-dropped k x xs t) ∙ sort-same xs r.1 ∙ sym (ap (sort_in k) (kept-dropped k x xs t))
        | inr t ↦
            let n : has_key k (k x) (sort_in k l) ≡ false = has-sort k (k x) l ∙ has-kept (k x) xs ∙ t in
            ap (sort_in m) (kept-kept k x xs t) ∙ sort-cons m x l ∙ ap (put_in m x) (sort-same xs r.1)
            ∙ put-same x (sort_in k l) r.0 (each-sort P k l (each-kept P k xs r.1)) n ∙ sym (ap (sort_in k) (kept-kept k x xs t) ∙ sort-cons k x l)
      ]
