-- Processes whose parts, members of sets and pairs of maps stand in ascending order.
use Rattle.std.specs.Prelude.{List, [], ◌∷◌, cond, zip}
use Rattle.calculus.specs.Tree.{Tree, node, Trees, none, also, trees}
use Rattle.calculus.specs.Congruence.{is_bag}
use Rattle.calculus.specs.Code.{codes}
use Rattle.calculus.specs.Normal.{arranged_by}

abbrev mutual
  -- a tree with what stands in no order put in ascending order of codes, at each place in it
  pub ordered : Tree → Tree
  ordered (node l ts) = node l (trees (cond (is_bag l) (arranged_by (zip (codes ts) (ordered_all ts))) (ordered_all ts)))

  -- these trees put in order, each in its place
  pub ordered_all : Trees → List Tree
  ordered_all none = []
  ordered_all (also t ts) = ordered t ∷ ordered_all ts
