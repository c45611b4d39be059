use Rattle.std.proofs.Common.{◌∙◌, sym}
use Rattle.rspace_table.proofs.InHand.{stored-found, stored-none, stored-more}
use Rattle.rspace_table.proofs.held.Held.meet_stored.Goals as goal

pub returns-then-is_some : goal.returns-then-is_some
returns-then-is_some c =
    stored-found c.args.self.now c.deref-shard-items.result.now (c.deref-shard-items.ensures.value ∙ c.self.view_is) c.args.op.now c.loop-shard.shard-index _ _ c.loop-shard-test.true c.shard-item.is c.in_ok-found.found c.in_ok-found.ensures (sym c.is_some.ensures ∙ c.if-is_some.true)

pub loop-shard-preserved : goal.loop-shard-preserved
loop-shard-preserved c =
    stored-more c.args.self.now c.deref-shard-items.result.now c.args.op.now c.loop-shard.shard-index _ _ c.loop-shard-test.true c.shard-item.is c.in_ok-found.found c.in_ok-found.ensures (sym c.is_some.ensures ∙ c.if-is_some.false) c.loop-shard.invariant

pub returns : goal.returns
returns c = stored-none c.args.self.now c.deref-shard-items.result.now (c.deref-shard-items.ensures.value ∙ c.self.view_is) c.args.op.now c.loop-shard.shard-index c.loop-shard-test.false c.loop-shard.invariant
