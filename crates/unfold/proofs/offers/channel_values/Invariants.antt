use Rattle.std.proofs.Common.{◌≤◌, map, drop}
use Rattle.calculus.specs.Values.{value}
use Rattle.price_table.proofs.Outcomes.{Leads}
use Rattle.unfold.proofs.offers.channel_values.Given as goal

abbrev pub invariant-loop-bind : goal.invariant-loop-bind
invariant-loop-bind l = record {
  fits : l.total ≤ l.fn.budget.cap;
  leads : Leads l.fn.budget.cap l.fn.budget.price l.total l.values.items (map (λ b. value l.fn.budget.prices.now b.channel) l.binds.items) (map (λ b. value l.fn.budget.prices.now b.channel) (drop l.bind-index l.binds.items));
}
