use Rattle.std.proofs.Common.{refl}
use Rattle.run_status.specs.Statuses.{price_refusal}
use Rattle.run_status.proofs.Handing.{handed}
use Rattle.run_inputs.proofs.Pricing.{price_cause}
use Rattle.run_inputs.proofs.fetch.prices_in.Goals as goal

pub returns-in_err-read_prices-clause-refused : goal.returns-in_err-read_prices-clause-refused
returns-in_err-read_prices-clause-refused c = handed _ _ _ c.from_residual.ensures.1
    (λ s k. price_cause c.args.text.now c.in_err-read_prices.field-0.0 (price_refusal c.in_err-read_prices.field-0.0) s refl c.in_err-read_prices.ensures k)
