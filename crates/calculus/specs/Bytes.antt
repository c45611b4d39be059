-- Numbers and lists as bytes.
use Rattle.std.specs.Prelude.{ℕ, ◌%◌, ◌^◌, List, [], ◌∷◌, ◌++◌}
use Rattle.std.specs.Int.{w32, w64, to_be_bytes}

-- a number modulo 2^32 as four bytes, the high one first
unfoldable pub be32 : ℕ → List ℕ
be32 n = to_be_bytes w32 (n % 2 ^ 32)

-- a number modulo 2^64 as eight bytes, the high one first
unfoldable pub be64 : ℕ → List ℕ
be64 n = to_be_bytes w64 (n % 2 ^ 64)

-- these lists one after another
abbrev pub joined : List (List ℕ) → List ℕ
joined [] = []
joined (c ∷ cs) = c ++ joined cs
