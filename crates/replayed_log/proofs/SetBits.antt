-- Bits of shards.
use Rattle.std.proofs.Common.{◌≡◌, ◌<◌, ◌^◌, ◌*◌, ◌%◌, ◌-◌, ℕ, zero, suc, Bool, true, false, refl, sym, ap, subst, ◌∙◌, arith, eqb, nat_lt, w64}
use Rattle.std.specs.Prelude.{◌&&◌, not, min, bit_and}
use Rattle.std.specs.Int.{bit_at, bit_not, trailing_zeros}
use Rattle.std.proofs.lemmas.Bool.Decides.{nat_tests}
use Rattle.std.proofs.lemmas.Nat.{pow_below}
use Rattle.std.proofs.lemmas.Nat.Bits.{bit_at-lt, bit_at_and, bit_at_not, bit_at-pow_same, bit_at-trailing_zeros}
use Rattle.replay_hub.specs.Values.{has_bit}
use Rattle.replay_rows.proofs.Shifting.{no-bits, one-shifted}
use Rattle.replay_worker.proofs.Hands.{set}

-- the bit of one shard
pub one-bit : (i : ℕ) → i < 64 → has_bit (1 * 2 ^ i % 2 ^ 64) i ≡ true
one-bit i h = subst (λ (n : ℕ). has_bit n i ≡ true) (sym (one-shifted i h)) (set (2 ^ i) i (pow_below i 64 h) (bit_at-pow_same i))

without : (a b : ℕ) → a < 2 → b < 2 → eqb (min a (1 - b)) 1 ≡ eqb a 1 && not (eqb b 1)
without zero zero h i = refl
without zero (suc zero) h i = refl
without (suc zero) zero h i = refl
without (suc zero) (suc zero) h i = refl
without (suc (suc a)) b h i = absurd (omega (arith, h))
without zero (suc (suc b)) h i = absurd (omega (arith, i))
without (suc zero) (suc (suc b)) h i = absurd (omega (arith, i))

-- the bits of one number that another has not
pub missing-bits : (a b : ℕ) → b < 2 ^ 64 → (k : ℕ) → has_bit (bit_and a (bit_not w64 b)) k ≡ has_bit a k && not (has_bit b k)
missing-bits a b fits k = go (nat_lt k 64) refl
  where
    n : ℕ
    n = bit_and a (bit_not w64 b)

    bits : k < 64 → eqb (bit_at n k) 1 ≡ eqb (bit_at a k) 1 && not (eqb (bit_at b k) 1)
    bits h =
        ap (λ m. eqb m 1) (bit_at_and a (bit_not w64 b) k ∙ ap (λ m. min (bit_at a k) m) (bit_at_not w64 b k fits h))
        ∙ without (bit_at a k) (bit_at b k) (bit_at-lt a k) (bit_at-lt b k)

    go : (t : Bool) → nat_lt k 64 ≡ t → t && eqb (bit_at n k) 1 ≡ (t && eqb (bit_at a k) 1) && not (t && eqb (bit_at b k) 1)
    go true e = bits (grind (arith, nat_tests, e))
    go false e = refl

both : (a b : Bool) → true ≡ a && not b → (a ≡ true) × (b ≡ false)
both true true e = absurd (cc)
both true false e = (refl, refl)
both false b e = absurd (cc)

covered : (a b : Bool) → false ≡ a && not b → a ≡ true → b ≡ true
covered true true e h = refl
covered true false e h = absurd (cc)
covered false b e h = absurd (cc)

module _ (n a b : ℕ) (bits : (k : ℕ) → has_bit n k ≡ has_bit a k && not (has_bit b k)) where
  -- where some bits are missing, one is
  pub some-missing : n < 2 ^ 64 → 0 < n → (k : ℕ) × (has_bit a k ≡ true) × (has_bit b k ≡ false)
  some-missing fits some =
      let z = bit_at-trailing_zeros w64 n some fits in
      let k = trailing_zeros w64 n in
      let two = both (has_bit a k) (has_bit b k) (sym (set n k fits z.1) ∙ bits k) in
      (k, two.0, two.1)

  -- and where none are, each is there
  pub none-missing : n ≡ 0 → (k : ℕ) → has_bit a k ≡ true → has_bit b k ≡ true
  none-missing none k = covered (has_bit a k) (has_bit b k) (sym (ap (λ (m : ℕ). has_bit m k) none ∙ no-bits k) ∙ bits k)
