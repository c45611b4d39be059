use Rattle.std.proofs.Common.{take}
use Rattle.std.specs.Prelude.{All}
use Rattle.event_log.specs.Known.{HasIdBytes}
use Rattle.event_log.proofs.steps.are_ids.Given as goal

abbrev pub invariant-loop-id : goal.invariant-loop-id
invariant-loop-id l = All HasIdBytes (take l.id-index l.ids)
