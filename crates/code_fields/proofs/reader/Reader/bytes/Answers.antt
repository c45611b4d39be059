use Rattle.std.proofs.Common.{arith}
use Rattle.code_faults.proofs.Exit.{exit}
use Rattle.code_faults.proofs.BegunLeaves.{number-begun_bytes, bytes-cut}
use Rattle.code_faults.proofs.Places.{goes-on, goes-here}
use Rattle.code_faults.proofs.TextRefusals.{text-refused}
use Rattle.code_faults.proofs.Blaming.{none-told}
use Rattle.code_faults.proofs.BlamedLeaves.{number-bytes}
use Rattle.code_fields.proofs.reader.Reader.bytes.Goals as goal

pub returns-in_err-taken-clause-refuses : goal.returns-in_err-taken-clause-refuses
returns-in_err-taken-clause-refuses c = exit _ _ _ c.from_residual-in_err-taken.ensures.1 (λ x h. text-refused c.in_ok-len.field-0 _ x c.in_ok-len.ensures.is (omega arith) h (λ w. c.in_err-taken.ensures.refuses x w))

pub returns-in_err-len-clause-wrong : goal.returns-in_err-len-clause-wrong
returns-in_err-len-clause-wrong c = exit _ _ _ c.from_residual.ensures.1 (number-bytes c.in_err-len.ensures.wrong)

pub returns-in_err-taken-clause-wrong : goal.returns-in_err-taken-clause-wrong
returns-in_err-taken-clause-wrong c = exit _ _ _ c.from_residual-in_err-taken.ensures.1 (none-told _ c.in_err-taken.ensures.tells)

pub returns-in_err-len-clause-begun : goal.returns-in_err-len-clause-begun
returns-in_err-len-clause-begun c = exit _ _ _ c.from_residual.ensures.1 (λ s. goes-on (c.in_err-len.ensures.begun s (omega arith)) (λ z n. number-begun_bytes n.number n.cut))

pub returns-in_err-taken-clause-begun : goal.returns-in_err-taken-clause-begun
returns-in_err-taken-clause-begun c = exit _ _ _ c.from_residual-in_err-taken.ensures.1 (λ s. goes-here _ (bytes-cut _ c.in_ok-len.field-0 c.in_ok-len.ensures.is c.in_err-taken.ensures.left c.in_err-taken.ensures.ends) c.in_err-taken.ensures.place)
