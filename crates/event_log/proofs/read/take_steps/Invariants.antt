use Rattle.std.proofs.Common.{map}
use Rattle.event_log.specs.View.{step_of}
use Rattle.event_log.specs.Reading.{step}
use Rattle.event_log.proofs.Repeated.{SoFar}
use Rattle.event_log.proofs.read.take_steps.Given as goal

abbrev pub invariant-loop-i : goal.invariant-loop-i
invariant-loop-i l = SoFar (step l.whole) l.many l._i (map step_of l.found.items) l.rest l.bytes
