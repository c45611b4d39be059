-- What a price text is refused for.
use Rattle.std.proofs.Common.{◌≡◌, ℕ, List, Result, Err, Option, Some, None, sym, ap, subst}
use Rattle.calculus.specs.Outcome.{Prices as PriceTable}
use Rattle.phlo_meter.specs.Answers.{Refuses}
use Rattle.phlo_meter.specs.PriceTable as meter
use Rattle.phlo_meter.specs.PriceTable.{prices_of}
use Rattle.phlo_meter.specs.declared.fault.PriceFault.{PriceFault}
use Rattle.phlo_meter.specs.declared.fault.PriceFault.TheVariants as faults
use Rattle.run_inputs.specs.Inputs.{bad_prices, or_refused}
use Rattle.run_inputs.specs.Refused.{PriceCause}
use Rattle.run_status.specs.Statuses.{price_refusal, PriceStatusOf}
use Rattle.run_status.specs.declared.status.Status.{Status}

-- a fault that is a refusal is that of the text
refuses-so : (f : PriceFault) (said : Result PriceTable meter.Refusal) (r : meter.Refusal) → price_refusal f ≡ Some r → Refuses f said → said ≡ Err r
refuses-so faults.NotToml said r e h = cc
refuses-so (faults.MissingKey key) said r e h = cc
refuses-so (faults.NotInteger key) said r e h = cc
refuses-so (faults.OutOfRange key value) said r e h = cc
refuses-so (faults.UnknownKey key) said r e h = cc
refuses-so faults.NoMemory said r e h = absurd cc

-- a fault of a price text is why it gives no prices
pub price_cause : (text : List ℕ) (f : PriceFault) (o : Option meter.Refusal) (s : Status) → price_refusal f ≡ o → Refuses f (prices_of text) → PriceStatusOf f o s → PriceCause text s
price_cause text f None s e h k = subst (PriceCause text) (sym k) tt
price_cause text f (Some r) s e h k = subst (PriceCause text) (sym k) (bad_prices r, (e, ap or_refused (refuses-so f (prices_of text) r e h)))
