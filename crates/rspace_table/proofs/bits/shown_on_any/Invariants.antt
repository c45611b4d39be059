use Rattle.std.proofs.Common.{eqb, take}
use Rattle.std.specs.List.{list_any}
use Rattle.calculus.specs.Storing.{shard}
use Rattle.shard_counts.specs.Bits.{AreBitsBeside}
use Rattle.row_table.specs.Shown.{heard_on}
use Rattle.rspace_table.proofs.bits.shown_on_any.Given as goal

abbrev pub invariant-loop-bind : goal.invariant-loop-bind
invariant-loop-bind l = AreBitsBeside (λ k. list_any (λ b. eqb k (shard b.channel)) l.binds) (λ k. list_any (λ b. heard_on l.table b.channel k) (take l.bind-index l.binds)) l.bits
