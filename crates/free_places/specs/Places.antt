-- Numbers of targets that are used.
use Rattle.std.specs.Prelude.{◌≡◌, ℕ, suc, ◌<◌, ◌≤◌, Bool, true, false, cond, eqb, ◌||◌, List, [], ◌∷◌, Option, Some, None}
use Rattle.calculus.specs.Tree.{Tree}

-- whether a number is among these
abbrev pub has : List ℕ → ℕ → Bool
has [] i = false
has (u ∷ us) i = eqb u i || has us i

-- the targets, numbered from i on, whose numbers are not among these
abbrev pub left_from : ℕ → List ℕ → List Tree → List Tree
left_from i us [] = []
left_from i us (t ∷ ts) = cond (has us i) (left_from (suc i) us ts) (t ∷ left_from (suc i) us ts)

-- the numbers from i on and below j are all among these
abbrev pub AreUsed : List ℕ → ℕ → ℕ → Type 0
AreUsed us i j = (k : ℕ) → k < j → i ≤ k → has us k ≡ true

-- the first number below n, from i on, that is not among these
pub record NextFree (us : List ℕ) (i n j : ℕ) : Type 0 where
  pub from : i ≤ j
  pub within : j < n
  pub free : has us j ≡ false
  pub before : AreUsed us i j

-- the same, or none where all are used
abbrev pub IsNextFree : List ℕ → ℕ → ℕ → Option ℕ → Type 0
IsNextFree us i n None = AreUsed us i n
IsNextFree us i n (Some j) = NextFree us i n j
