-- Bits of numbers.
use Rattle.std.specs.Prelude.{◌≡◌, ◌<◌, ℕ, Bool, false, eqb}
use Rattle.std.specs.Int.{bit_at}

-- of the low 64 bits of a number those are set of whose places this holds
abbrev pub AreBits : (ℕ → Bool) → ℕ → Type 0
AreBits f n = (k : ℕ) → k < 64 → eqb (bit_at n k) 1 ≡ f k

-- the same, but at places of one's own, of which nothing is said
abbrev pub AreBitsBeside : (ℕ → Bool) → (ℕ → Bool) → ℕ → Type 0
AreBitsBeside own f n = (k : ℕ) → k < 64 → own k ≡ false → eqb (bit_at n k) 1 ≡ f k
