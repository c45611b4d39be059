use Rattle.std.specs.Prelude.{None}
use Rattle.replay_rows.specs.Bits.{has_bit}
use Rattle.replay_slots.proofs.Stepping.{UpTo}
use Rattle.replay_slots.proofs.Placing.{Roomed}
use Rattle.replay_slots.proofs.slots.make_room_all.Given as goal

abbrev pub invariant-loop-number : goal.invariant-loop-number
invariant-loop-number l = UpTo (Roomed l.id.0 (has_bit l.shards)) l.number None l.initial.slots.items l.slots.items
