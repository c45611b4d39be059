use Rattle.std.proofs.Common.{take}
use Rattle.radix_root.specs.Nodes.{NoneHas}
use Rattle.radix_root.proofs.node.place_of.Given as goal

abbrev pub invariant-loop-place : goal.invariant-loop-place
invariant-loop-place l = NoneHas l.half (take l.place l.children)
