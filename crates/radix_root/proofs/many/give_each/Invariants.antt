use Rattle.std.proofs.Common.{◌≡◌, ◌≤◌, ◌+◌, ◌-◌, ◌*◌, List, ℕ, take}
use Rattle.radix_root.specs.Leaves.{digest_at}
use Rattle.radix_root.specs.Nodes.{IsNode}
use Rattle.radix_root.specs.Groups.{ShareAll, digest_after}
use Rattle.radix_root.proofs.many.give_each.Given as goal

-- the node after the groups so far
abbrev pub invariant-loop-group : goal.invariant-loop-group
invariant-loop-group g l =
    let depth = l.fn.node.depth in
    record {
      node : IsNode depth l.node;
      half : l.node.half ≡ l.fn.node.half;
      shared : ShareAll depth l.node.leaves l.groups;
      given : (k : List ℕ) → digest_at l.node.leaves k ≡ digest_after (take l.group-index l.groups) (digest_at l.fn.node.leaves k) k;
      counted : l.steps ≤ l.fn.steps + (64 - depth) * l.group-index;
    }
