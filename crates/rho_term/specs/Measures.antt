-- Heights as 32 bits hold them, and whether there are faults.
use Rattle.std.specs.Prelude.{ℕ, ◌-◌, ◌^◌, min}

-- a number, or the greatest u32 where the number is greater
abbrev pub in_u32 : ℕ → ℕ
in_u32 n = min n (2 ^ 32 - 1)

-- 0 for 0, and else 1
abbrev pub sign : ℕ → ℕ
sign n = min n 1
