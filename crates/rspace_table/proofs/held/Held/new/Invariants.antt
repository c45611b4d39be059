use Rattle.std.proofs.Common.{◌≡◌, length}
use Rattle.rspace_table.proofs.InHand.{AreAbsent}
use Rattle.rspace_table.proofs.held.Held.new.Given as goal

abbrev pub invariant-loop : goal.invariant-loop
invariant-loop l = (length l.shards.items ≡ l.counter) × AreAbsent l.shards.items
