-- Bits that are set one after another.
use Rattle.std.proofs.Common.{◌≡◌, ◌≢◌, ℕ, ◌+◌, ◌*◌, ◌^◌, ◌%◌, ◌<◌, ◌≤◌, Bool, true, false, eqb, bit_or, sym, ap, ◌∙◌, arith, subst, w64}
use mathlib.Core.Logic.{dite}
use native.Mathlib.Decide.{ℕ_discrete}
use Rattle.std.specs.Int.{bit_at}
use Rattle.std.proofs.lemmas.Nat.Bits.{bit_at_set_same, bit_at_set_other}

-- one more bit is set
pub set-more : (f : ℕ → Bool) (bits n : ℕ) → n < 64 → ((s : ℕ) → s < n → eqb (bit_at bits s) 1 ≡ f s) → f n ≡ true → (s : ℕ) → s < n + 1 → eqb (bit_at (bit_or bits (1 * 2 ^ n % 2 ^ 64)) s) 1 ≡ f s
set-more f bits n lt h t s ls = dite (ℕ_discrete s n)
    (λ e. let P : ℕ → Type 0 = λ j. eqb (bit_at (bit_or bits (1 * 2 ^ n % 2 ^ 64)) j) 1 ≡ f j in subst P (sym e) (ap (λ b. eqb b 1) (bit_at_set_same w64 bits n lt) ∙ sym t))
    (λ ne. ap (λ b. eqb b 1) (bit_at_set_other w64 bits n lt s ne) ∙ h s (omega (arith, ne)))

-- and later ones stay
pub set-later : (bits n : ℕ) → n < 64 → ((s : ℕ) → n ≤ s → eqb (bit_at bits s) 1 ≡ false) → (s : ℕ) → n + 1 ≤ s → eqb (bit_at (bit_or bits (1 * 2 ^ n % 2 ^ 64)) s) 1 ≡ false
set-later bits n lt h s ls = let ne : s ≢ n = omega arith in ap (λ b. eqb b 1) (bit_at_set_other w64 bits n lt s ne) ∙ h s (omega arith)

-- and where it is not set
pub unset-more : (f : ℕ → Bool) (bits n : ℕ) → ((s : ℕ) → s < n → eqb (bit_at bits s) 1 ≡ f s) → eqb (bit_at bits n) 1 ≡ false → f n ≡ false → (s : ℕ) → s < n + 1 → eqb (bit_at bits s) 1 ≡ f s
unset-more f bits n h o t s ls = dite (ℕ_discrete s n)
    (λ e. let P : ℕ → Type 0 = λ j. eqb (bit_at bits j) 1 ≡ f j in subst P (sym e) (o ∙ sym t))
    (λ ne. h s (omega (arith, ne)))
