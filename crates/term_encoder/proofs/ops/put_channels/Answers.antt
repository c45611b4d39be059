use Rattle.std.proofs.Common.{List, ap, sym, ◌∙◌, ℕ}
use Rattle.calculus.specs.Code.{code}
use Rattle.calculus.specs.Rows.{channels}
use Rattle.calculus.specs.Shape.{many}
use Rattle.calculus.specs.Tree.{Tree, row}
use Rattle.rho_term.specs.declared.op.Op.{Op}
use Rattle.rho_term.specs.Rows.{row_of_op}
use Rattle.term_encoder.proofs.Channels.{channels-receive}
use Rattle.term_encoder.proofs.Writing.{wrote, wrote_one}
use Rattle.term_encoder.proofs.ops.put_channels.Goals as goal

abbrev listed_codes : List Tree → List ℕ
listed_codes ts = code (many row ts)

abbrev channels_of : Op → List Tree
channels_of op = channels (row_of_op op).part

pub returns-in-Produce : goal.returns-in-Produce
returns-in-Produce c = wrote (wrote_one c.be32.ensures c.put_term.ensures) (ap (λ op. listed_codes (channels_of op)) (sym c.in-Produce.is))

pub returns-in-Consume : goal.returns-in-Consume
returns-in-Consume c =
    let p = c.in-Consume in
    wrote c.put_bind_channels.ensures (ap listed_codes (sym (channels-receive p.id p.kind p.binds p.body)) ∙ ap (λ op. listed_codes (channels_of op)) (sym p.is))
