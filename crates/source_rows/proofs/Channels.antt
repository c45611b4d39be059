-- The channel of a bind that is closed and short is one of a group.
use Rattle.calculus.specs.Form.{term}
use Rattle.calculus.specs.Tree.{Tree}
use Rattle.join_index.specs.Groups.{IsChannel}
use Rattle.match_targets.specs.Targets.{Ready}

pub is-channel : (t : Tree) → Ready term t → IsChannel t
is-channel t h = record { closed = h.closed; short = h.short }
