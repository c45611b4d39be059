use Rattle.std.proofs.Common.{sym, subst, arith}
use Rattle.calculus.specs.Form.{IsBytes}
use Rattle.code_faults.proofs.Numbers.{are_bytes}
use Rattle.code_fields.proofs.fields.array_of.Goals as goal

pub returns-clause-digest : goal.returns-clause-digest
returns-clause-digest c = (c.copy_from_slice.ensures.len, subst IsBytes (sym c.copy_from_slice.ensures.after) (are_bytes c.args.bytes.now (λ i. omega (arith, c.type_inv.bytes i))))
