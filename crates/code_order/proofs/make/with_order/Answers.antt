use Rattle.std.proofs.Common.{ap, sym, ◌∙◌}
use Rattle.rho_term.specs.Parts.{part_tree}
use Rattle.code_order.specs.Made.{reordered}
use Rattle.code_order.proofs.Made.{set-made, dict-made, as-made}
use Rattle.code_order.proofs.make.with_order.Goals as goal

pub returns-in-Ok : goal.returns-in-Ok
returns-in-Ok c = set-made _ _ c.in_ok-sorted_terms-in-Ok.ensures ∙ ap (λ p. reordered (part_tree p)) (sym c.in-Ok.ensures)

pub returns-in_ok-sorted_pairs-in-Ok-into_pairs : goal.returns-in_ok-sorted_pairs-in-Ok-into_pairs
returns-in_ok-sorted_pairs-in-Ok-into_pairs c =
    dict-made _ _ c.in_ok-sorted_pairs-in-Ok-into_pairs.ensures ∙ ap (λ p. reordered (part_tree p)) (sym (sym c.in-Err.ensures.0 ∙ c.in-Ok-into_pairs.ensures))

pub returns-in-Err-into_pairs : goal.returns-in-Err-into_pairs
returns-in-Err-into_pairs c =
    let same = c.in-Err.ensures.0 in let again = c.in-Err-into_pairs.ensures in
    ap part_tree (again.0 ∙ same) ∙ as-made c.args.part c.in-Err.ensures.1 (λ pairs is. again.1 pairs (same ∙ is))
