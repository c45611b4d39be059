use Rattle.std.proofs.Common.{length}
use Rattle.next_states.specs.Walks.{Once, Passing}
use Rattle.next_states.proofs.walk.Walk.pass_below.Given as goal

-- what held of the walk still holds
abbrev pub invariant-below : goal.invariant-below
invariant-below l = Once l.fn.self.changed l.self.changed (Passing l.code l.fn.self l.self)

abbrev pub decreases-below : goal.decreases-below
decreases-below l = length l.self.left.marks.now
