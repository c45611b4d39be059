-- What a step came to.
use Rattle.std.specs.Prelude.{◌≡◌, ◌≤◌, ℕ, ◌+◌, List}
use Rattle.calculus.specs.Outcome.{Prices}
use Rattle.calculus.specs.Runs.{Work, work_products, work_price, work_fault}
use Rattle.calculus.specs.Unfolding.{rows_of, UnfoldsUnder}
use Rattle.found_rows.specs.declared.found.Found.{Found}
use Rattle.found_rows.specs.Making.{printed_line}
use Rattle.replayed_log.specs.declared.unfolding.UnfoldedStep.{UnfoldedStep}

-- what a step with these found rows came to: under what is bound its body came to a work with this seed, these prices and this cap, which tells the price, the offers and the fault; and the line is the one that the step prints
pub record IsUnfoldedStep (p : Prices) (cap : ℕ) (f : Found) (seed : List ℕ) (u : UnfoldedStep) : Type 0 where
  pub work : Work
  pub said : UnfoldsUnder p cap f.bound.items f.body seed work
  pub price_is : work_price cap work ≡ u.price
  pub most : u.price ≤ cap + 1
  pub fault_is : work_fault work ≡ u.fault
  pub rows : u.offers.items ≡ rows_of (work_products work)
  pub line : u.line.items ≡ printed_line f
