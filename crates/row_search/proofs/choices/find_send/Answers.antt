use Rattle.std.proofs.Common.{sym, ◌∙◌}
use Rattle.row_search.proofs.Walks.{walk-found, walk-missed}
use Rattle.row_search.proofs.choices.find_send.Goals as goal

pub returns-then-is_some : goal.returns-then-is_some
returns-then-is_some g c =
    walk-found c.args.bind.now (g.S.RowsAtHand.rows c.args.store.now) c.args.ids.now c.loop-id.id-index _ c.in_ok-found.found c.loop-id-test.true c.in_ok-found.ensures
    c.loop-id.invariant (sym c.is_some.ensures ∙ c.if-is_some.true)

pub loop-id-preserved : goal.loop-id-preserved
loop-id-preserved g c =
    walk-missed c.args.bind.now (g.S.RowsAtHand.rows c.args.store.now) c.args.ids.now c.loop-id.id-index _ c.in_ok-found.found c.loop-id-test.true c.in_ok-found.ensures
    c.loop-id.invariant (sym c.is_some.ensures ∙ c.if-is_some.false)
