use Rattle.std.proofs.Common.{◌≡◌, sym, subst, map}
use Rattle.std.specs.Prelude.{IfOk}
use Rattle.calculus.specs.Code.{code}
use Rattle.calculus.specs.Order.{IsAscending}
use Rattle.calculus.specs.Root.{key}
use Rattle.calculus.specs.Rows.{channels}
use Rattle.space_row.proofs.Codes.{rising-ascending}
use Rattle.space_row.proofs.encoding.row_key.Goals as goal

pub op_key-requires : goal.op_key-requires
op_key-requires c = subst (λ r. IsAscending (map code (channels r.part))) (sym c.op.ensures.is) (rising-ascending _ c.op.ensures.storable.rising)

pub returns : goal.returns
returns c = subst (λ r. IfOk c.op_key.result (λ d. d.0 ≡ key r)) c.op.ensures.is c.op_key.ensures
