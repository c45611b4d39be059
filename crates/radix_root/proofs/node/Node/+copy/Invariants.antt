use Rattle.std.proofs.Common.{◌≡◌, take}
use Rattle.radix_root.proofs.node.Node.+copy.Given as goal

abbrev pub invariant-loop-child : goal.invariant-loop-child
invariant-loop-child l = l.children.items ≡ take l.child-index l.self-inside.children.items
