use Rattle.std.proofs.Common.{subst, length, refl}
use Rattle.sha2.specs.Hashers.{Holds256}
use Rattle.calculus.specs.Bytes.{be32}
use Rattle.calculus.specs.declared.ids.Digest.{Digest}
use Rattle.name_seed.proofs.OneMore.{one_more}
use Rattle.name_seed.proofs.Seed.comm.Goals as goal

pub loop-id-preserved : goal.loop-id-preserved
loop-id-preserved c =
    let f = λ (d : Digest). d.0 in
    let h = c.update-in-loop-id.ensures _ c.loop-id.invariant in
    subst (Holds256 c.update-in-loop-id.new.self)
    (one_more f c.args.cont.now.0 (be32 (length c.args.taken.now)) _ c.args.taken.now c.loop-id.id-index _ c.loop-id-test.true refl) h
