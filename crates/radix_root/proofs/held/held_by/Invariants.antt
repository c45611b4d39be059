use Rattle.std.proofs.Common.{take}
use Rattle.radix_root.specs.Nodes.{leaves_of}
use Rattle.radix_root.specs.Holding.{IsHeld}
use Rattle.radix_root.proofs.held.held_by.Given as goal

abbrev pub invariant-loop-child : goal.invariant-loop-child
invariant-loop-child l = IsHeld l.held (leaves_of (take l.child-index l.children))
