use Rattle.std.proofs.Common.{map}
use Rattle.event_log.specs.Reading.{field}
use Rattle.event_log.proofs.Repeated.{SoFar}
use Rattle.event_log.proofs.read.take_ids.Given as goal

abbrev pub invariant-loop-i : goal.invariant-loop-i
invariant-loop-i l = SoFar (field l.whole 32) l.many l._i (map (λ id. id.0) l.ids.items) l.rest l.bytes
