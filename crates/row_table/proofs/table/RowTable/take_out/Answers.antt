use Rattle.row_table.proofs.Changing.{taken-more, without-none}
use Rattle.row_table.proofs.table.RowTable.take_out.Goals as goal

pub loop-id-init : goal.loop-id-init
loop-id-init c = without-none c.args.self.now

pub loop-id-preserved : goal.loop-id-preserved
loop-id-preserved c = taken-more c.args.ids.now c.loop-id.id-index _ c.args.self.now c.loop-id.self c.take_one.new.self c.loop-id-test.true c.loop-id.invariant c.take_one.ensures
