-- Bits of a number.
use Rattle.std.proofs.Common.{◌≡◌, ℕ, zero, suc, ◌<◌, ◌/◌, ◌%◌, ◌^◌, Bool, true, false, ◌&&◌, refl, ap, sym, ◌∙◌, arith, eqb, nat_lt}
use Rattle.std.specs.Int.{bit_at}
use Rattle.std.proofs.lemmas.Bool.Decides.{nat_tests}
use Rattle.hub_rule.specs.Counts.{one_if}
use Rattle.replay_hub.specs.Values.{has_bit}

pub low : (n k : ℕ) → has_bit n k ≡ true → k < 64
low n k e = go (nat_lt k 64) refl e
  where
    go : (b : Bool) → nat_lt k 64 ≡ b → b && eqb (bit_at n k) 1 ≡ true → k < 64
    go true d e = grind (arith, nat_tests)
    go false d e = cc

by-bit : (b : ℕ) → b < 2 → b ≡ one_if (eqb b 1)
by-bit zero h = refl
by-bit (suc zero) h = refl
by-bit (suc (suc n)) h = absurd (omega (arith, h))

pub bits : (n k : ℕ) → k < 64 → bit_at n k ≡ one_if (has_bit n k)
bits n k lt =
    let yes : nat_lt k 64 ≡ true = grind (arith, nat_tests) in
    by-bit (bit_at n k) (remainder (n / 2 ^ k)) ∙ ap (λ b. one_if (b && eqb (bit_at n k) 1)) (sym yes)
  where
    remainder : (m : ℕ) → m % 2 < 2
    remainder m = omega arith
