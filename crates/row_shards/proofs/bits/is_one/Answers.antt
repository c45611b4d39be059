use Rattle.std.proofs.Common.{◌≡◌, ℕ, ◌*◌, ◌^◌, ◌%◌, eqb-true, w64, refl, sym, ap, ◌∙◌, arith}
use mathlib.Core.Logic.{dite}
use native.Mathlib.Decide.{ℕ_discrete}
use Rattle.std.specs.Int.{bit_at, trailing_zeros}
use Rattle.std.proofs.lemmas.Nat.{one_shl}
use Rattle.std.proofs.lemmas.Nat.Bits.{bit_at-trailing_zeros, bit_at-pow_other}
use Rattle.row_shards.proofs.bits.is_one.Goals as goal

-- a bit that is set in a power of two is that one
the-one : (z i : ℕ) → bit_at (2 ^ z) i ≡ 1 → i ≡ z
the-one z i e = dite (ℕ_discrete i z) (λ s. s) (λ ne. absurd (no (bit_at (2 ^ z) i) (bit_at (2 ^ z) i) (bit_at-pow_other z i ne) e refl))
  where
    no : (n m : ℕ) → n ≡ 0 → m ≡ 1 → n ≡ m → ⊥
    no n m a b q = omega (arith, a, b, q)

pub returns : goal.returns
returns c t j k lj lk hj hk =
    let bits = c.args.bits in
    let z = trailing_zeros w64 bits in
    let p = bit_at-trailing_zeros w64 bits (omega (arith, c.if-bits-eq0.false)) (omega (arith, c.ranges.bits.fits)) in
    let e = eqb-true bits (1 * 2 ^ z % 2 ^ 64) t ∙ one_shl z 64 p.0 in
    the-one z j (ap (λ n. bit_at n j) (sym e) ∙ hj) ∙ sym (the-one z k (ap (λ n. bit_at n k) (sym e) ∙ hk))
