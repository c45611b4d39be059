use Rattle.std.proofs.Common.{◌≡◌, drop}
use Rattle.join_index.specs.Groups.{holds}
use Rattle.join_index.proofs.index.holds.Given as goal

abbrev pub invariant-loop-other : goal.invariant-loop-other
invariant-loop-other l = holds l.channel l.group ≡ holds l.channel (drop l.other-index l.group)
