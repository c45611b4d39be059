-- Examples of processes that are in normal order or not.
use Rattle.std.specs.Prelude.{[], ◌∷◌}
use Rattle.calculus.specs.Tree.{Tree}
use Rattle.calculus.specs.Shape.{process}
use Rattle.calculus.specs.Examples.{whole, less, num, list_of, set_of, map_of, entry, one_two, two_one}
use Rattle.rho_term.specs.Normal.{IsNormal}

-- a process is not in normal order
abbrev pub IsOutOfOrder : Tree → Type 0
IsOutOfOrder t = IsNormal t → ⊥

-- which processes are in normal order
pub record NormalExamples : Type 0 where
  -- `1 | 2`
  pub parts_ascend : IsNormal one_two
  -- `2 | 1`
  pub parts_descend : IsOutOfOrder two_one
  -- repeats stay, and -1 stands before 1: `-1 | 1 | 1`
  pub repeats_stay : IsNormal (process (less 1 ∷ whole 1 ∷ whole 1 ∷ []))
  -- pairs of a map ascend by their keys: `{1: 4, 2: 3}`
  pub pairs_ascend : IsNormal (map_of (entry (num 1) (num 4) ∷ entry (num 2) (num 3) ∷ []))
  -- a list stands as written: `[2, 1]`
  pub items_as_written : IsNormal (list_of (num 2 ∷ num 1 ∷ []))
  -- members of a set that stands in a list: `[1, Set(2, 1)]`
  pub members_descend_inside : IsOutOfOrder (list_of (num 1 ∷ set_of (num 2 ∷ num 1 ∷ []) ∷ []))
