use Rattle.std.proofs.Common.{◌+◌, ◌*◌, ◌-◌}
use Rattle.radix_root.proofs.node.+put.Given as goal

-- the half bytes that are left
abbrev pub decreases-Node::put : goal.decreases-Node::put
decreases-Node::put g l = 2 * (64 - l.self.now.depth) + 1

abbrev pub decreases-put_below : goal.decreases-put_below
decreases-put_below g l = 2 * (64 - l.depth)
