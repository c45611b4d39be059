use Rattle.std.proofs.Common.{◌≡◌, ◌<◌, ℕ, length, cond, get_or}
use Rattle.std.specs.Prelude.{Some, None}
use Rattle.replay_rows.specs.Bits.{has_bit}
use Rattle.replay_rows.specs.Rows.{arrived_seen}
use Rattle.replay_slots.proofs.slots.make_copies.Given as goal

abbrev pub invariant-loop-number : goal.invariant-loop-number
invariant-loop-number l =
    record {
      long : length l.copies.items ≡ l.number;
      are : (k : ℕ) → k < l.number → get_or l.copies.items k None ≡ cond (has_bit l.shards k) (Some (arrived_seen l.row l.from)) None;
    }
