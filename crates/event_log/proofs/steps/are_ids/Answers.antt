use Rattle.std.proofs.Common.{subst}
use Rattle.std.specs.Prelude.{All}
use Rattle.std.proofs.lemmas.List.{take_all}
use Rattle.std.proofs.lemmas.List.Elements.{All-more}
use Rattle.event_log.specs.Known.{HasIdBytes}
use Rattle.event_log.proofs.steps.are_ids.Goals as goal

pub loop-id-preserved : goal.loop-id-preserved
loop-id-preserved c = All-more HasIdBytes c.args.ids.now c.loop-id.id-index _ c.loop-id-test.true c.loop-id.invariant c.is_id.ensures

pub returns : goal.returns
returns c = subst (All HasIdBytes) (take_all c.loop-id.id-index c.args.ids.now c.loop-id-test.false) c.loop-id.invariant
