use Rattle.std.proofs.Common.{length}
use Rattle.replay_slots.proofs.full.+is_full_in.Given as goal

abbrev pub decreases-is_full_in : goal.decreases-is_full_in
decreases-is_full_in l = length l.slots.now
