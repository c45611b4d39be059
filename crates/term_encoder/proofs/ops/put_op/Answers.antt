use Rattle.std.proofs.Common.{List, ℕ, ap, sym}
use Rattle.calculus.specs.Rows.{row_code}
use Rattle.rho_term.specs.declared.op.Op.{Op}
use Rattle.rho_term.specs.Rows.{row_of_op}
use Rattle.term_encoder.proofs.Writing.{wrote, wrote_both}
use Rattle.term_encoder.proofs.ops.put_op.Goals as goal

abbrev coded : Op → List ℕ
coded op = row_code (row_of_op op)

pub returns-in-Produce : goal.returns-in-Produce
returns-in-Produce c =
    let args = wrote_both c.bare_flag.ensures c.put_terms.ensures in
    wrote (wrote_both c.byte.ensures (wrote_both c.slice.ensures (wrote_both c.put_term.ensures args))) (ap coded (sym c.in-Produce.is))

pub returns-in-Consume : goal.returns-in-Consume
returns-in-Consume c =
    let body = wrote_both c.put_binds.ensures c.put_term-in-Consume.ensures in
    wrote (wrote_both c.byte-in-Consume.ensures (wrote_both c.slice-in-Consume.ensures (wrote_both c.bare_kind.ensures body))) (ap coded (sym c.in-Consume.is))
