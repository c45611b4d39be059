-- Processes in normal order.
use Rattle.std.specs.Prelude.{ℕ, Bool, true, false, List, ⊤}
use Rattle.calculus.specs.Tree.{Tree, node, Trees, none, also}
use Rattle.calculus.specs.Order.{IsAscending}
use Rattle.calculus.specs.Congruence.{is_bag}
use Rattle.calculus.specs.Code.{codes}

-- codes of what has no order of its own ascend
abbrev pub IsArranged : Bool → List (List ℕ) → Type 0
IsArranged true cs = IsAscending cs
IsArranged false cs = ⊤

abbrev mutual
  -- parts, and members of sets and maps, ascend in their codes wherever they stand in this tree
  pub IsNormal : Tree → Type 0
  IsNormal (node l ts) = IsArranged (is_bag l) (codes ts) × AreNormal ts

  -- the same in each of these trees
  pub AreNormal : Trees → Type 0
  AreNormal none = ⊤
  AreNormal (also t ts) = IsNormal t × AreNormal ts

-- what stands first in this tree, the parts of a process or the members of a set or map, ascends in its codes
abbrev pub IsOrdered : Tree → Type 0
IsOrdered (node l ts) = IsArranged (is_bag l) (codes ts)
