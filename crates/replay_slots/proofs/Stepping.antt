-- Lists that change place by place.
use Rattle.std.proofs.Common.{◌≡◌, ◌<◌, ◌≤◌, ◌+◌, ℕ, zero, suc, List, [], ◌∷◌, length, refl, sym, ap, subst, ◌∙◌, arith, get_or, ◌⊎◌, inl, inr}
use Rattle.std.specs.Prelude.{set}

pub other-place : {A : Type 0} (l : List A) (i k : ℕ) (w d : A) → (k ≡ i → ⊥) → get_or (set l i w) k d ≡ get_or l k d
other-place [] i k w d n = refl
other-place (x ∷ l) zero zero w d n = absurd (n refl)
other-place (x ∷ l) zero (suc k) w d n = refl
other-place (x ∷ l) (suc i) zero w d n = refl
other-place (x ∷ l) (suc i) (suc k) w d n = other-place l i k w d (λ e. n (ap suc e))

pub its-place : {A : Type 0} (l : List A) (i : ℕ) (w d : A) → i < length l → get_or (set l i w) i d ≡ w
its-place [] i w d h = absurd (omega (arith, h))
its-place (x ∷ l) zero w d h = refl
its-place (x ∷ l) (suc i) w d h = its-place l i w d (omega (arith, h))

pub one-length : {A : Type 0} (l : List A) (i : ℕ) (w : A) → length (set l i w) ≡ length l
one-length [] i w = refl
one-length (x ∷ l) zero w = refl
one-length (x ∷ l) (suc i) w = ap suc (one-length l i w)

pub below-or-at : (k n : ℕ) → k < n + 1 → (k < n) ⊎ (k ≡ n)
below-or-at zero zero h = inr refl
below-or-at zero (suc n) h = inl (omega arith)
below-or-at (suc k) zero h = absurd (omega (arith, h))
below-or-at (suc k) (suc n) h = go (below-or-at k n (omega (arith, h)))
  where
    go : (k < n) ⊎ (k ≡ n) → (suc k < suc n) ⊎ (suc k ≡ suc n)
    go (inl lt) = inl (omega (arith, lt))
    go (inr e) = inr (ap suc e)

-- the members at places below n changed so, and the others stay
pub record UpTo {A : Type 0} (P : ℕ → A → A → Type 0) (n : ℕ) (d : A) (old new : List A) : Type 0 where
  pub long : length new ≡ length old
  pub changed : (k : ℕ) → k < n → k < length old → P k (get_or old k d) (get_or new k d)
  pub rest : (k : ℕ) → n ≤ k → get_or new k d ≡ get_or old k d

pub nothing-yet : {A : Type 0} (P : ℕ → A → A → Type 0) (d : A) (l : List A) → UpTo P 0 d l l
nothing-yet P d l = record { long = refl; changed = λ k h j. absurd (omega (arith, h)); rest = λ k h. refl }

pub one-further : {A : Type 0} (P : ℕ → A → A → Type 0) (n : ℕ) (d w : A) (old new : List A) → UpTo P n d old new → n < length old → P n (get_or old n d) w → UpTo P (n + 1) d old (set new n w)
one-further P n d w old new u h p = record {
  long = one-length new n w ∙ u.long;
  changed = λ k lt j. go k j (low k lt);
  rest = λ k ge. other-place new n k w d (λ e. omega (arith, e, ge)) ∙ u.rest k (omega (arith, ge));
}
  where
    there : n < length new
    there = omega (arith, h, u.long)

    low : (k : ℕ) → k < n + 1 → (k < n) ⊎ (k ≡ n)
    low k lt = below-or-at k n lt

    go : (k : ℕ) → k < length old → (k < n) ⊎ (k ≡ n) → P k (get_or old k d) (get_or (set new n w) k d)
    go k j (inl lt) = subst (λ x. P k (get_or old k d) x) (sym (other-place new n k w d (λ e. omega (arith, e, lt)))) (u.changed k lt j)
    go k j (inr e) = subst (λ i. P i (get_or old i d) (get_or (set new n w) i d)) (sym e) (subst (λ x. P n (get_or old n d) x) (sym (its-place new n w d there)) p)
