use Rattle.std.proofs.Common.{◌≡◌, ◌≤◌, ◌+◌, ◌*◌, ◌-◌, List, ℕ, length}
use Rattle.radix_root.specs.Leaves.{digest_at}
use Rattle.radix_root.specs.Nodes.{IsFork, leaves_of}
use Rattle.radix_root.specs.Groups.{ShareAll, digest_after}
use Rattle.radix_root.proofs.many.+give_all.Given as goal

-- the half bytes that are left
abbrev pub decreases-give_all : goal.decreases-give_all
decreases-give_all g l = 3 * (64 - l.node.now.depth) + 2

abbrev pub decreases-give_runs : goal.decreases-give_runs
decreases-give_runs g l = 3 * (64 - l.depth) + 1

abbrev pub decreases-give_run : goal.decreases-give_run
decreases-give_run g l = 3 * (64 - l.depth)

-- what is left to be given makes of the nodes now what all makes of those before
abbrev pub invariant-give_runs-loop-rest : goal.invariant-give_runs-loop-rest
invariant-give_runs-loop-rest g l = record {
  fork : IsFork l.depth l.children.items;
  shared : ShareAll l.depth (leaves_of l.children.items) l.rest;
  given : (k : List ℕ) → digest_after l.rest (digest_at (leaves_of l.children.items) k) k ≡ digest_after l.groups (digest_at (leaves_of l.fn.children.items) k) k;
  counted : l.steps + (63 - l.depth) * length l.rest ≤ l.fn.steps + (63 - l.depth) * length l.groups;
}

abbrev pub decreases-give_runs-loop-rest : goal.decreases-give_runs-loop-rest
decreases-give_runs-loop-rest g l = length l.rest
