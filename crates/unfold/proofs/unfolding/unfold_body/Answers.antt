use Rattle.price_table.proofs.Outcomes.{exit}
use Rattle.unfold.proofs.Whole.{body-stops}
use Rattle.unfold.proofs.unfolding.unfold_body.Goals as goal

pub returns-in_err-term : goal.returns-in_err-term
returns-in_err-term c = exit _ _ _ _ c.from_residual.ensures.1 (body-stops c.args.prices.now c.args.cap c.args.seed.now c.args.values.now c.args.body.now c.in_err-term.field-0.0 c.in_err-term.ensures)
