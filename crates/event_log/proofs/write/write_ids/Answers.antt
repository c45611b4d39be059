use Rattle.calculus.specs.declared.ids.Digest.{Digest}
use Rattle.event_log.proofs.Grown.{grown}
use Rattle.event_log.proofs.write.write_ids.Goals as goal

pub loop-id-preserved : goal.loop-id-preserved
loop-id-preserved c =
    grown (λ (d : Digest). d.0) c.args.bytes.now.items c.loop-id.bytes.items c.extend_from_slice.new.self.items c.args.ids.now c.loop-id.id-index _
    c.loop-id-test.true c.loop-id.invariant c.in_ok-extend_from_slice.ensures.items
