use Rattle.std.proofs.Common.{subst, length, refl}
use Rattle.sha2.specs.Hashers.{Holds256}
use Rattle.calculus.specs.Bytes.{be32}
use Rattle.radix_root.proofs.Grown.{hashed}
use Rattle.radix_root.proofs.digests.leaf_digest.Goals as goal

pub loop-row-preserved : goal.loop-row-preserved
loop-row-preserved g c =
    let h = c.update-in-loop-row.ensures _ c.loop-row.invariant in
    subst (Holds256 c.update-in-loop-row.new.self)
    (hashed (λ r. r.now) 0x10 c.args.key.now.0 (be32 (length c.args.rows.now)) _ c.args.rows.now c.loop-row.row-index _ c.loop-row-test.true refl) h
