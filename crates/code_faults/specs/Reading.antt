-- What is read of a code.
use Rattle.std.specs.Prelude.{◌≡◌, ℕ, ◌≤◌, List, [], ◌++◌}
use Rattle.calculus.specs.Tree.{Tree, par, trees}
use Rattle.calculus.specs.Shape.{many}
use Rattle.calculus.specs.Size.{height, heights}
use Rattle.calculus.specs.Order.{IsAscending}
use Rattle.calculus.specs.Code.{code, codes}
use Rattle.calculus.specs.Form.{Sort, Scope, Fits, Hold, all}

-- bytes begin with the code of this tree, which is of this sort in this scope and of at most this height; these are left
pub record Reads (s : Sort) (v : Scope) (room : ℕ) (t : Tree) (bytes left : List ℕ) : Type 0 where
  pub is : bytes ≡ code t ++ left
  pub fits : Fits s v t
  pub low : height t ≤ room

-- the same for a number and the codes of these trees, which ascend
pub record ReadsBag (s : Sort) (v : Scope) (room : ℕ) (ts : List Tree) (bytes left : List ℕ) : Type 0 where
  pub is : bytes ≡ code (many par ts) ++ left
  pub fits : Hold (all s) v [] (trees ts)
  pub low : heights (trees ts) ≤ room
  pub up : IsAscending (codes (trees ts))
