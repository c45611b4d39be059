use Rattle.std.proofs.Common.{◌≡◌, ℕ, [], drop, None}
use Rattle.group_locks.specs.Seats.{drawn_by, due_of, AtRest, HasLeave, HasRoom}
use Rattle.play_draws.specs.Making.{IsAgain}
use Rattle.play_draws.specs.Turns.{HasWork}
use Rattle.play_worker.proofs.worker.work_on.Given as goal

abbrev pub invariant-loop : goal.invariant-loop
invariant-loop g l = record {
  rest : AtRest l.hub.table.shared.table_id l.seat.state;
  empty : (k : ℕ) → g.T.ShardTables.in_hand l.held k ≡ None;
  work : HasWork l.op l.from l.seat.state;
  leave : HasLeave l.seat.state × HasRoom l.seat.state;
  again : IsAgain (drop l.from (drawn_by l.seat.state)) l.again;
}
