use Rattle.std.proofs.Common.{◌≡◌}
use Rattle.hub_steps.proofs.Waits.{Waits}
use Rattle.hub_steps.proofs.works.find_work.Given as goal

abbrev pub invariant-loop : goal.invariant-loop
invariant-loop g l = record {
  table : l.token.table_id ≡ l.initial.token.table_id;
  id : l.token.id ≡ l.initial.token.id;
  waits : Waits l.initial.token.me l.token.me;
}
