-- What the unfolding of a source or of a body came to.
use Rattle.std.specs.Prelude.{◌≡◌, ◌≤◌, ℕ, ◌+◌, [], Some, None}
use Rattle.calculus.specs.Unfolding.{rows_of}
use Rattle.calculus.specs.Runs.{Work, work_products, work_price, work_fault}
use Rattle.price_table.specs.declared.stop.EvalStop.{EvalStop}
use Rattle.price_table.specs.declared.stop.EvalStop.TheVariants.{Fault, Over, NoMemory}
use Rattle.unfold.specs.declared.work.Worked.{Worked}

-- what is left of an unfolding that stopped, where memory did not run out: its price, which is one more than the cap where it passed the cap, and its fault
abbrev pub HasStopped : ℕ → EvalStop → Worked → Type 0
HasStopped cap (Fault kind price) w = (w.price ≡ price) × (w.offers.items ≡ []) × (w.fault ≡ Some kind)
HasStopped cap Over w = (w.price ≡ cap + 1) × (w.offers.items ≡ []) × (w.fault ≡ None)
HasStopped cap NoMemory w = ⊥

-- work under this cap, of which this is said, has this price, these offers and this fault
pub record IsWork (says : Work → Type 0) (cap : ℕ) (w : Worked) : Type 0 where
  pub work : Work
  pub said : says work
  pub price_is : work_price cap work ≡ w.price
  pub fault_is : work_fault work ≡ w.fault
  pub rows : w.offers.items ≡ rows_of (work_products work)
  pub most : w.price ≤ cap + 1
