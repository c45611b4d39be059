-- The bits of shards.
use Rattle.std.specs.Prelude.{ℕ, Bool, ◌&&◌, eqb, nat_lt}
use Rattle.std.specs.Int.{bit_at}

-- whether a bit is set, of the low 64
abbrev pub has_bit : ℕ → ℕ → Bool
has_bit n k = nat_lt k 64 && eqb (bit_at n k) 1
