use Rattle.std.proofs.Common.{◌∙◌, arith, map as each}
use Rattle.replay_rows.specs.Rows.{seen_row, once_more}
use Rattle.replay_rows.proofs.Counting.{counted-next, fits-more, all-changed, as-many}
use Rattle.replay_rows.proofs.rows.count_all.Goals as goal

pub overflow_add-seen : goal.overflow_add-seen
overflow_add-seen c = fits-more c.loop-i.i c.loop-i.list (each seen_row c.args.list.now) _ (omega (arith, c.loop-i-test.true, c.loop-i.auto.list)) c.loop-i.invariant c.requires

pub loop-i-preserved : goal.loop-i-preserved
loop-i-preserved c = counted-next c.loop-i.i c.loop-i.list (each seen_row c.args.list.now) _ (omega (arith, c.loop-i-test.true, c.loop-i.auto.list)) c.loop-i.invariant

pub returns : goal.returns
returns c = c.loop-i.invariant ∙ all-changed once_more c.loop-i.i (each seen_row c.args.list.now) (omega (arith, as-many c.args.list.now, c.loop-i-test.false))
