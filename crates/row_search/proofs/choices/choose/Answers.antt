use Rattle.std.proofs.Common.{sym, ◌∙◌, map}
use Rattle.row_search.proofs.Looping.{on-pick, off-pick}
use Rattle.row_search.proofs.choices.choose.Goals as goal

pub returns-then-is_sent_on : goal.returns-then-is_sent_on
returns-then-is_sent_on g c = on-pick c.args.bind.now (g.S.RowsAtHand.rows c.args.store.now) c.args.op.now c.take_send.result (sym c.is_sent_on.ensures ∙ c.if-is_sent_on.true) c.take_send.ensures

pub returns-in_ok-ids : goal.returns-in_ok-ids
returns-in_ok-ids g c =
    off-pick c.args.bind.now (g.S.RowsAtHand.rows c.args.store.now) (map (λ d. d.0) c.in_ok-ids.ids.now) c.args.op.now c.find_send.result (sym c.is_sent_on.ensures ∙ c.if-is_sent_on.false) c.in_ok-ids.ensures c.find_send.ensures
