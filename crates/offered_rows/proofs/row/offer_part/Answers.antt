use Rattle.std.proofs.Common.{◌*◌, [], ◌∷◌, sym, ap, ◌∙◌}
use Rattle.calculus.specs.Shape.{at, held}
use Rattle.calculus.specs.Rows.{row_length}
use Rattle.calculus.specs.Unfolding.{a_row, row_limits}
use Rattle.rho_term.specs.Parts.{part_tree}
use Rattle.rho_term.specs.Rows.{row_of_op}
use Rattle.price_table.proofs.Outcomes.{exit}
use Rattle.offered_rows.specs.Offers.{row_of, tested}
use Rattle.offered_rows.proofs.Charging.{row-bytes, over-stops, with-nothing, told, no-fault}
use Rattle.offered_rows.proofs.row.offer_part.Goals as goal

pub returns-in_err-price : goal.returns-in_err-price
returns-in_err-price c =
    let b = c.args.budget in let r = row_of c.args.id.0 (part_tree c.args.part) in
    let bytes = row-bytes c.args.id.0 c.args.part c.in_ok-term.term _ _ c.requires c.in_ok-term.ensures c.code_len.ensures c.saturating_add-bytes.ensures in
    let past = c.in_err-price.ensures.1 (row_length r) bytes in
    exit _ _ _ _ c.from_residual-in_err-price.ensures.1 (over-stops b.cap b.price c.args.base (b.prices.now.byte * row_length r) (tested c.args.fault r) _ c.in_err-price.ensures.0 past)

pub returns-in-Some : goal.returns-in-Some
returns-in-Some c =
    let b = c.args.budget in let r = row_of c.args.id.0 (part_tree c.args.part) in
    let bytes = row-bytes c.args.id.0 c.args.part c.in_ok-term.term _ _ c.requires c.in_ok-term.ensures c.code_len.ensures c.saturating_add-bytes.ensures in
    let paid = c.in_ok-price.ensures (row_length r) bytes in
    (ap (λ f. tested f r) c.in-Some.is, with-nothing c.in_ok-price.price b.price c.args.base (b.prices.now.byte * row_length r) paid.0, paid.1)

pub returns : goal.returns
returns c =
    let b = c.args.budget in let r = row_of c.args.id.0 (part_tree c.args.part) in
    let bytes = row-bytes c.args.id.0 c.args.part c.in_ok-term.term _ _ c.requires c.in_ok-term.ensures c.code_len.ensures c.saturating_add-bytes.ensures in
    let paid = c.in_ok-price.ensures (row_length r) bytes in
    let same = ap (λ f. tested f r) (no-fault c.args.fault c.in_default.not-Some) ∙ ap (λ t. row_limits (row_of c.args.id.0 (at 0 (held t)))) (sym c.in_ok-term.ensures) in
    told (λ p. p.price) (λ p. a_row (row_of_op p.value) ∷ []) b.cap b.price c.in_ok-price.price c.args.base (b.prices.now.byte * row_length r) (tested c.args.fault r) (row_limits (row_of c.args.id.0 (at 0 (held c.in_ok-term.term)))) c.limited.result same paid.0 c.limited.ensures
