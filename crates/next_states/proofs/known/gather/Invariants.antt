use Rattle.std.proofs.Common.{map, take}
use Rattle.next_states.specs.Walks.{Once, Puts, pair_in}
use Rattle.next_states.proofs.known.gather.Given as goal

abbrev pub invariant-loop-row : goal.invariant-loop-row
invariant-loop-row l = Once l.fn.changed l.changed (Puts l.fn.changed l.changed (map pair_in (take l.row-index l.keyed)))
