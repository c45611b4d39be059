-- Things that have keys, which are lists of bytes: of those with one key the last alone is kept.
use Rattle.std.specs.Prelude.{ℕ, Bool, false, cond, ◌||◌, List, [], ◌∷◌, map as each, All}
use Rattle.std.specs.Ordering.{is_eq}
use Rattle.calculus.specs.Order.{byte_cmp, IsAscending}
use Rattle.calculus.specs.Normal.{arranged_by}
use Rattle.calculus.specs.Tree.{Tree}
use Rattle.calculus.specs.Code.{code}
use Rattle.value_ops.specs.Answers.{IsOperand}

-- whether two keys are one
abbrev pub same : List ℕ → List ℕ → Bool
same a b = is_eq (byte_cmp a b)

-- whether one of these has this key
abbrev pub has_key : {X : Type 0} → (X → List ℕ) → List ℕ → List X → Bool
has_key k c [] = false
has_key k c (x ∷ xs) = same (k x) c || has_key k c xs

-- of those with one key the last alone
abbrev pub last_each : {X : Type 0} → (X → List ℕ) → List X → List X
last_each k [] = []
last_each k (x ∷ xs) = cond (has_key k (k x) xs) (last_each k xs) (x ∷ last_each k xs)

-- of those with one key the last alone, ascending in the keys
abbrev pub once_each : {X : Type 0} → (X → List ℕ) → List X → List X
once_each k xs = arranged_by (each (λ x. (k x, x)) (last_each k xs))

-- things whose keys are operands, and ascend in their codes
pub record Ascend {X : Type 0} (f : X → Tree) (xs : List X) : Type 0 where
  pub keys : All (λ x. IsOperand (f x)) xs
  pub up : IsAscending (each (λ x. code (f x)) xs)
