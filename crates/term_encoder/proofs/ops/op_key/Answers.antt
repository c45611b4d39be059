use Rattle.std.proofs.Common.{ap, ◌∙◌}
use Rattle.std.specs.Prelude.{Ok}
use Rattle.sha2.specs.Sha256.{sha256}
use Rattle.calculus.specs.Root.{key}
use Rattle.calculus.specs.Rows.{channels}
use Rattle.rho_term.specs.Rows.{row_of_op}
use Rattle.term_encoder.proofs.Channels.{row-group}
use Rattle.term_encoder.proofs.Writing.{wrote, wrote_code}
use Rattle.term_encoder.proofs.ops.op_key.Goals as goal

pub returns : goal.returns
unfolding key
returns c =
    let w = wrote c.put_channels.ensures (row-group (channels (row_of_op c.args.op.now).part) c.requires) in
    c.digest.ensures ∙ ap sha256 (c.as_slice.ensures.value ∙ wrote_code (Ok c.in_ok-bytes.bytes) c.new-out.ensures w c.in_ok-bytes.ensures)
