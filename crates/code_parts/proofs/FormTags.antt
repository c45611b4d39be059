-- Tags of forms.
use Rattle.std.proofs.Common.{◌≡◌, ℕ, ◌<◌, ◌≤◌, true, lt_of_not-le, arith}
use Rattle.code_faults.specs.Tags.{is_form_tag, is_pat_form_tag}
use Rattle.code_faults.proofs.Tags.{form-tags, pat_form-tags}

-- a form of a pattern that is no collection, no send, no bundle and no closed form has a later tag
pub later-pat_form : (k : ℕ) → is_pat_form_tag k ≡ true → (0x31 ≤ k → k ≤ 0x33 → ⊥) → (k ≡ 0x20 → ⊥) → (k ≡ 0x21 → ⊥) → (k ≡ 0x22 → ⊥) → (k ≡ 0x23 → ⊥) → (k ≡ 0x30 → ⊥) → (k ≡ 0x34 → ⊥) → 0x34 < k
later-pat_form k e z a b c d f g = lt_of_not-le (λ h. pat_form-tags k e z a b c d f g (λ q. omega (arith, q, h)) (λ q. omega (arith, q, h)) (λ q. omega (arith, q, h)) (λ q. omega (arith, q, h)))

-- a form of none of these tags has the last one
pub last-form : (k : ℕ) → is_form_tag k ≡ true → (k ≡ 0x20 → ⊥) → (k ≡ 0x21 → ⊥) → (k ≡ 0x22 → ⊥) → (k ≡ 0x23 → ⊥) → (0x31 ≤ k → k ≤ 0x33 → ⊥)
    → (k ≡ 0x30 → ⊥) → (k ≡ 0x34 → ⊥) → (k ≡ 0x40 → ⊥) → (k ≡ 0x41 → ⊥) → k ≡ 0x42
last-form k e a b c d r x y z w =
    let under : k < 0x43 = lt_of_not-le (λ h. form-tags k e a b c d x
    (λ q. r (omega (arith, q)) (omega (arith, q))) (λ q. r (omega (arith, q)) (omega (arith, q))) (λ q. r (omega (arith, q)) (omega (arith, q))) y z w (λ q. omega (arith, q, h))) in
    let over : 0x41 < k = lt_of_not-le (λ h. form-tags k e a b c d x
    (λ q. r (omega (arith, q)) (omega (arith, q))) (λ q. r (omega (arith, q)) (omega (arith, q))) (λ q. r (omega (arith, q)) (omega (arith, q))) y z w (λ q. omega (arith, q, h))) in
    omega (arith, under, over)
