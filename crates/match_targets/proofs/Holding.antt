-- The parts of a process, by their numbers.
use Rattle.std.proofs.Common.{◌≡◌, ℕ, ◌<◌, List, length, map as each, get_or, sym, ap, ◌∙◌, subst}
use Rattle.std.proofs.lemmas.List.{length-map, get_or-map}
use Rattle.calculus.specs.Tree.{Tree, trees, par}
use Rattle.calculus.specs.Shape.{held, leaf, process}
use Rattle.calculus.specs.Code.{codes}
use Rattle.calculus.specs.Order.{IsAscending}
use Rattle.calculus.proofs.Placing.{listed-trees}
use Rattle.rho_term.specs.Normal.{IsNormal, AreNormal}
use Rattle.rho_term.specs.Parts.{part_tree, term_tree}
use Rattle.rho_term.specs.declared.term.Part.{Part}

-- what is known of the parts of a process
module _ (t : Tree) (ps : List Part) (e : t ≡ term_tree ps) where
  pub term-held : held t ≡ each part_tree ps
  term-held = ap held e ∙ listed-trees (each part_tree ps)

  pub term-normal : IsNormal t → AreNormal (trees (each part_tree ps))
  term-normal h = (subst IsNormal e h).1

  pub term-ascends : IsNormal t → IsAscending (codes (trees (held t)))
  term-ascends h = subst (λ (ts : List Tree). IsAscending (codes (trees ts))) (sym term-held) (subst IsNormal e h).0

  pub term-process : t ≡ process (held t)
  term-process = e ∙ ap process (sym term-held)

-- part number j of a process
pub target_at : (t : Tree) (ps : List Part) (j : ℕ) (p : Part) → t ≡ term_tree ps → j < length ps → p ≡ get_or ps j p → get_or (held t) j (leaf par) ≡ part_tree p
target_at t ps j p e h g = ap (λ (ts : List Tree). get_or ts j (leaf par)) (term-held t ps e) ∙ get_or-map part_tree ps j p (leaf par) h ∙ ap part_tree (sym g)

pub held_length : (t : Tree) (ps : List Part) → t ≡ term_tree ps → length (held t) ≡ length ps
held_length t ps e = ap length (term-held t ps e) ∙ length-map ps part_tree
