use Rattle.std.proofs.Common.{◌≡◌, drop, map}
use Rattle.row_search.specs.Rows.{looked_up}
use Rattle.row_search.specs.Choices.{first_taken}
use Rattle.row_search.proofs.choices.find_send.Given as goal

abbrev pub invariant-loop-id : goal.invariant-loop-id
invariant-loop-id g l =
    first_taken l.bind (looked_up (g.S.RowsAtHand.rows l.store) (map (λ d. d.0) l.ids)) ≡ first_taken l.bind (looked_up (g.S.RowsAtHand.rows l.store) (map (λ d. d.0) (drop l.id-index l.ids)))
