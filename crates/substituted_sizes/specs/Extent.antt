-- The heights and the code lengths of what trees become when values are put in.
use Rattle.std.specs.Prelude.{◌≡◌, ℕ, ◌+◌, max, List, [], ◌∷◌}
use Rattle.calculus.specs.Tree.{Tree, trees}
use Rattle.calculus.specs.Size.{heights}
use Rattle.rho_term.specs.Measures.{in_u32}
use Rattle.rho_term.specs.Sizes.{in_u64, sizes}
use Rattle.term_bounds.specs.Filled.{value_parts, filled}

-- the greatest height of what a tree becomes under d inner variables
unfoldable pub filled_height : List Tree → ℕ → Tree → ℕ
filled_height vs d t = heights (trees (filled (value_parts vs) d t))

-- how many bytes the codes of what a tree becomes have together
unfoldable pub filled_size : List Tree → ℕ → Tree → ℕ
filled_size vs d t = sizes (trees (filled (value_parts vs) d t))

-- the greatest height of what these become
abbrev pub filled_heights : List Tree → ℕ → List Tree → ℕ
filled_heights vs d [] = 0
filled_heights vs d (t ∷ ts) = max (filled_height vs d t) (filled_heights vs d ts)

-- how many bytes the codes of what these become have together
abbrev pub filled_sizes : List Tree → ℕ → List Tree → ℕ
filled_sizes vs d [] = 0
filled_sizes vs d (t ∷ ts) = filled_size vs d t + filled_sizes vs d ts

-- a height that is that of what a tree becomes, under any number of inner variables that is n as far as 64 bits count
abbrev pub IsHeight : List Tree → ℕ → Tree → ℕ → Type 0
IsHeight vs n t h = (d : ℕ) → in_u64 d ≡ n → h ≡ in_u32 (filled_height vs d t)

-- a length that is that of what a tree becomes
abbrev pub IsLength : List Tree → ℕ → Tree → ℕ → Type 0
IsLength vs n t k = (d : ℕ) → in_u64 d ≡ n → k ≡ in_u64 (filled_size vs d t)

-- a height that is the greatest of what several trees become
abbrev pub AreHeights : List Tree → ℕ → List Tree → ℕ → Type 0
AreHeights vs n ts h = (d : ℕ) → in_u64 d ≡ n → h ≡ in_u32 (filled_heights vs d ts)

-- a length that is that of what several trees become together
abbrev pub AreLengths : List Tree → ℕ → List Tree → ℕ → Type 0
AreLengths vs n ts k = (d : ℕ) → in_u64 d ≡ n → k ≡ in_u64 (filled_sizes vs d ts)
