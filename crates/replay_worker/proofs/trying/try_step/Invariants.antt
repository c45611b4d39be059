use Rattle.std.proofs.Common.{◌≡◌, true}
use Rattle.calculus.specs.Storing.{shard}
use Rattle.replay_hub.specs.declared.deed.Task.TheVariants.{Index}
use Rattle.replay_hub.specs.Values.{has_bit}
use Rattle.replay_worker.specs.Seats.{IsReady}
use Rattle.replay_worker.proofs.trying.try_step.Given as goal

abbrev pub invariant-loop : goal.invariant-loop
invariant-loop g l = record {
  ready : IsReady l.hub.table.shared.table_id (Index l.tried) l.seat.state (g.J.ReplayTerms.in_hand l.held);
  own : has_bit l.shards (shard (g.J.ReplayTerms.channel_of l.tried.channel)) ≡ true;
}
