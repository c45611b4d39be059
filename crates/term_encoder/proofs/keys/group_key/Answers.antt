use Rattle.std.proofs.Common.{refl, ap, ◌∙◌, rules}
use Rattle.std.specs.Prelude.{Ok}
use Rattle.sha2.specs.Sha256.{sha256}
use Rattle.calculus.specs.Code.{code}
use Rattle.calculus.specs.Shape.{many}
use Rattle.calculus.specs.Tree.{row}
use Rattle.rho_term.proofs.Trees.{map-same}
use Rattle.term_encoder.proofs.Channels.{row-group}
use Rattle.term_encoder.proofs.Writing.{wrote, wrote_next, wrote_row, wrote_code}
use Rattle.term_encoder.proofs.keys.group_key.Goals as goal

pub loop-channel-preserved : goal.loop-channel-preserved
loop-channel-preserved c = wrote_next (λ t. t) _ _ _ _ refl c.loop-channel-test.true c.channel-item.is c.loop-channel.invariant c.put_term.ensures

pub returns : goal.returns
returns c =
    let ts = c.args.channels.now in
    let n = wrote_row (λ t. t) ts ts _ _ refl c.loop-channel-test.false (search rules) c.be32.ensures c.loop-channel.invariant in
    let w = wrote n (ap (λ us. code (many row us)) (map-same ts) ∙ row-group ts c.requires) in
    c.digest.ensures ∙ ap sha256 (c.as_slice.ensures.value ∙ wrote_code (Ok c.in_ok-bytes.bytes) c.new-out.ensures w c.in_ok-bytes.ensures)
