use Rattle.std.proofs.Common.{◌≡◌, subst}
use Rattle.std.specs.Prelude.{IfOk}
use Rattle.calculus.specs.Rows.{row_code}
use Rattle.space_row.proofs.encoding.row_code.Goals as goal

pub returns : goal.returns
returns c = subst (λ r. IfOk c.encode_op.result (λ v. v.items ≡ row_code r)) c.op.ensures.is c.encode_op.ensures
