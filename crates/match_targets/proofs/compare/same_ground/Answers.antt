use Rattle.std.proofs.Common.{sym, ap, ◌∙◌}
use Rattle.calculus.specs.Congruence.{congruent}
use Rattle.rho_term.specs.Parts.{ground_tree, part_tree}
use Rattle.match_targets.proofs.Alike.{leaves, other}
use Rattle.match_targets.proofs.compare.same_ground.Goals as goal

pub returns-in-Ground : goal.returns-in-Ground
returns-in-Ground c =
    c.same_value.ensures ∙ leaves c.args.value.now c.in-Ground.other ∙ ap (λ p. congruent (ground_tree c.args.value.now) (part_tree p)) (sym c.in-Ground.is)

pub returns-in_default : goal.returns-in_default
returns-in_default c = other c.args.value.now c.args.target.now c.in_default.not-Ground
