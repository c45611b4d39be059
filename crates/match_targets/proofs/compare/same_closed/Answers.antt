use Rattle.std.proofs.Common.{sym, ap, ◌∙◌}
use Rattle.calculus.specs.Shape.{only}
use Rattle.rho_term.specs.Parts.{part_tree}
use Rattle.match_targets.proofs.Alike.{apart_numbers, same_parts}
use Rattle.match_targets.proofs.compare.same_closed.Goals as goal

pub returns-then-form_number : goal.returns-then-form_number
returns-then-form_number c =
    apart_numbers (part_tree c.args.form.now) (part_tree c.args.target.now) (λ e. c.if-form_number.true (c.form_number.ensures ∙ e ∙ sym c.form_number-2.ensures))

pub returns : goal.returns
returns c =
    c.is_eq.ensures
    ∙ same_parts (part_tree c.args.form.now) (part_tree c.args.target.now) _ _ c.cmp_terms.result
    (c.in_ok-left.ensures ∙ ap only c.in_ok-copy.ensures) (c.in_ok-right.ensures ∙ ap only c.in_ok-copy-2.ensures)
    c.requires.form c.requires.target c.cmp_terms.ensures
