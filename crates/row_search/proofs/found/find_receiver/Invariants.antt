use Rattle.std.proofs.Common.{map, take}
use Rattle.std.specs.Prelude.{All}
use Rattle.row_search.specs.Rows.{looked_up}
use Rattle.row_search.specs.Meetings.{MeetsNone}
use Rattle.row_search.proofs.found.find_receiver.Given as goal

abbrev pub invariant-loop-id : goal.invariant-loop-id
invariant-loop-id g l = All (λ r. MeetsNone (g.S.RowsAtHand.rows l.store) l.op r) (looked_up (g.S.RowsAtHand.rows l.store) (map (λ d. d.0) (take l.id-index l.receivers)))
