-- Bare forms in normal order.
use Rattle.std.specs.Prelude.{List, [], ◌∷◌}
use Rattle.calculus.specs.Tree.{Tree, node, Trees, none, also}
use Rattle.calculus.specs.Normal.{made_node}

abbrev mutual
  -- a tree whose parts, and members of sets and maps, ascend in their codes, wherever they stand
  pub normal_form : Tree → Tree
  normal_form (node l ts) = made_node l (normal_forms ts)

  -- the same of each of these
  pub normal_forms : Trees → List Tree
  normal_forms none = []
  normal_forms (also t ts) = normal_form t ∷ normal_forms ts
