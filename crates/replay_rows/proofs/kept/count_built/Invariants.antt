use Rattle.std.proofs.Common.{◌≡◌, map as each}
use Rattle.event_log.specs.View.{step_of}
use Rattle.racing_replays.specs.Replaying.{names}
use Rattle.replay_rows.specs.Rows.{counted_in, seen_row}
use Rattle.replay_rows.proofs.Counting.{upto}
use Rattle.replay_rows.proofs.kept.count_built.Given as goal

abbrev pub invariant-loop-i : goal.invariant-loop-i
invariant-loop-i l = each seen_row l.built.items ≡ upto (counted_in (names (step_of l.step))) l.i (each seen_row l.initial.built.items)
