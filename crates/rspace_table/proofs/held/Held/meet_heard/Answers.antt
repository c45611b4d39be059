use Rattle.std.proofs.Common.{ap, inr}
use Rattle.std.proofs.lemmas.Result.{IfOk-weaker}
use Rattle.row_search.proofs.Known.{as-row}
use Rattle.rspace_table.specs.Hands.{is_receive}
use Rattle.rspace_table.proofs.Telling.{send-meets}
use Rattle.rspace_table.proofs.held.Held.meet_heard.Goals as goal

pub returns-in-Produce : goal.returns-in-Produce
returns-in-Produce c = IfOk-weaker c.meet_stored.result _ _ (send-meets c.args.self.now c.args.op.now) c.meet_stored.ensures

pub returns-in-Consume : goal.returns-in-Consume
returns-in-Consume c = let p = c.in-Consume in inr (ap is_receive (as-row c.args.op.now _ _ c.op.ensures.is p.is))
