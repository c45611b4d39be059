use Rattle.std.proofs.Common.{ap, sym, ◌∙◌}
use Rattle.row_search.specs.Rows.{row_with}
use Rattle.rspace_table.specs.Hands.{InHand, all_sends, sends_of}
use Rattle.rspace_table.proofs.InHand.{send-found, send-missed, send-none}
use Rattle.rspace_table.proofs.held.Held.send.Goals as goal

pub returns-then-is_some : goal.returns-then-is_some
returns-then-is_some c =
    let items = c.deref-shard-items.result.now in
    send-found c.args.id.now.0 items c.loop-shard.shard-index _ c.loop-shard-test.true c.loop-shard.invariant _
    (c.send_at-row.ensures ∙ ap (λ s. row_with c.args.id.now.0 (sends_of s)) c.shard-item.is) (sym c.is_some.ensures ∙ c.if-is_some.true)
    ∙ ap (λ (l : InHand). row_with c.args.id.now.0 (all_sends l)) (c.deref-shard-items.ensures.value ∙ c.self.view_is)

pub loop-shard-preserved : goal.loop-shard-preserved
loop-shard-preserved c =
    let items = c.deref-shard-items.result.now in
    send-missed c.args.id.now.0 items c.loop-shard.shard-index _ c.loop-shard-test.true c.loop-shard.invariant _
    (c.send_at-row.ensures ∙ ap (λ s. row_with c.args.id.now.0 (sends_of s)) c.shard-item.is) (sym c.is_some.ensures ∙ c.if-is_some.false)

pub returns : goal.returns
returns c =
    let items = c.deref-shard-items.result.now in
    send-none c.args.id.now.0 items c.loop-shard.shard-index c.loop-shard-test.false c.loop-shard.invariant ∙ ap (λ (l : InHand). row_with c.args.id.now.0 (all_sends l)) (c.deref-shard-items.ensures.value ∙ c.self.view_is)
