-- The nodes of one tree of a row, beside the number of trees there.
use Rattle.std.proofs.Common.{◌≡◌, ℕ, zero, suc, ◌+◌, ◌<◌, ◌≤◌, List, [], ◌∷◌, length, map as each, get_or, ap, subst, arith}
use Rattle.calculus.specs.Tree.{Tree, node, trees, weight, weights}
use Rattle.calculus.specs.Form.{wides}
use Rattle.calculus.proofs.Placing.{listed-trees}
use Rattle.rho_term.specs.Normal.{IsNormal, AreNormal}
use Rattle.rho_term.specs.Parts.{pat_part_tree, pat_tree}
use Rattle.rho_term.specs.declared.term.PatPart.{PatPart}
use Rattle.spatial_match.specs.Given.{Tries, PartsTry}
use Rattle.spatial_match.specs.Search.{AtMostOne}
use Rattle.spatial_match.specs.Found.{tried}
use Rattle.spatial_match.proofs.Trying.{pattern-tries, one_wide}

pub weight-pos : (t : Tree) → 1 ≤ weight t
weight-pos (node l ts) = omega arith

pub heavy : {A : Type 0} (f : A → Tree) (xs : List A) → length xs ≤ weights (trees (each f xs))
heavy f [] = omega arith
heavy f (x ∷ xs) = omega (arith, heavy f xs, weight-pos (f x))

pub weight-beside : {A : Type 0} (f : A → Tree) (xs : List A) (i : ℕ) (d : A) → i < length xs → weight (f (get_or xs i d)) + length xs ≤ weights (trees (each f xs)) + 1
weight-beside f [] i d h = absurd (omega arith)
weight-beside f (x ∷ xs) zero d h = omega (arith, heavy f xs)
weight-beside f (x ∷ xs) (suc i) d h = omega (arith, weight-beside f xs i d (omega arith), weight-pos (f x))

heavy_trees : (us : List Tree) → length us ≤ weights (trees us)
heavy_trees [] = omega arith
heavy_trees (u ∷ us) = omega (arith, heavy_trees us, weight-pos u)

pub tree-beside : (ts : List Tree) (i : ℕ) (d : Tree) → i < length ts → weight (get_or ts i d) + length ts ≤ weights (trees ts) + 1
tree-beside [] i d h = absurd (omega arith)
tree-beside (t ∷ ts) zero d h = omega (arith, heavy_trees ts)
tree-beside (t ∷ ts) (suc i) d h = omega (arith, tree-beside ts i d (omega arith), weight-pos t)

-- what is known of the parts of a pattern
module _ (p : Tree) (ps : List PatPart) (e : p ≡ pat_tree ps) where
  pub pat-tries : Tries p → PartsTry ps
  pat-tries h = pattern-tries (each pat_part_tree ps) (subst Tries e h)

  pub pat-one : Tries p → AtMostOne (tried ps)
  pat-one h =
      let k = (subst Tries e h).0 in
      one_wide pat_part_tree ps (omega (arith, k, ap wides (listed-trees (each pat_part_tree ps))))

  pub pat-normal : IsNormal p → AreNormal (trees (each pat_part_tree ps))
  pat-normal h = (subst IsNormal e h).1
