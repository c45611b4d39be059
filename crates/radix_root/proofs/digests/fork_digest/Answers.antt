use Rattle.std.proofs.Common.{sym, subst, ◌∙◌, ap}
use Rattle.sha2.specs.Hashers.{Holds256}
use Rattle.calculus.specs.Root.{sixteen}
use Rattle.radix_root.specs.Nodes.{digest_under}
use Rattle.radix_root.proofs.Grown.{tagged, sixteen-at}
use Rattle.radix_root.proofs.digests.fork_digest.Goals as goal

pub loop-half-preserved : goal.loop-half-preserved
loop-half-preserved g c =
    let f = digest_under c.args.children.now in
    let half = c.loop-half.half in
    let h = c.update-in-loop-half.ensures _ c.loop-half.invariant in
    subst (Holds256 c.update-in-loop-half.new.self)
    (tagged f 0x11 _ sixteen half 0 c.loop-half-test.true (c.under.ensures ∙ ap f (sym (sixteen-at half c.loop-half-test.true)))) h
