-- Processes made of parts in any order.
pub use Rattle.code_order.specs.Keyed.{beside}
use Rattle.std.specs.Prelude.{ℕ, List, map as each}
use Rattle.calculus.specs.Tree.{par, Tree, node}
use Rattle.calculus.specs.Shape.{listed}
use Rattle.calculus.specs.Normal.{arranged_by, made_node}

-- a form whose constituents are put in order, if it is a process, a set or a map, and else the form itself
abbrev pub reordered : Tree → Tree
reordered (node l ts) = made_node l (listed ts)

-- the process of these parts: they ascend in their codes, and so do the members of a set or a map among them
abbrev pub made_process : List Tree → Tree
made_process ts = made_node par (each reordered ts)

-- these things, each after the bytes that the function gives of it
abbrev pub keyed_by : {X : Type 0} → (X → List ℕ) → List X → List (List ℕ × X)
keyed_by k xs = each (λ x. (k x, x)) xs

-- these things, ascending in those bytes
abbrev pub ascending_by : {X : Type 0} → (X → List ℕ) → List X → List X
ascending_by k xs = arranged_by (keyed_by k xs)
