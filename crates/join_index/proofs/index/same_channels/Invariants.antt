use Rattle.std.proofs.Common.{◌≡◌, drop}
use Rattle.join_index.specs.Groups.{same_group}
use Rattle.join_index.proofs.index.same_channels.Given as goal

abbrev pub invariant-loop-i : goal.invariant-loop-i
invariant-loop-i l = same_group l.a l.b ≡ same_group (drop l.i l.a) (drop l.i l.b)
