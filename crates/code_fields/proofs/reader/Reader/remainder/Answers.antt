use Rattle.std.proofs.Common.{arith}
use Rattle.code_faults.proofs.Exit.{exit}
use Rattle.code_faults.proofs.Blaming.{not-canonical}
use Rattle.code_faults.proofs.BlamedLeaves.{byte-rest, rest-wrong}
use Rattle.code_fields.proofs.reader.Reader.remainder.Goals as goal

pub returns-in_err-flag-clause-wrong : goal.returns-in_err-flag-clause-wrong
returns-in_err-flag-clause-wrong c = exit _ _ _ c.from_residual.ensures.1 (byte-rest c.in_err-flag.ensures.wrong)

pub returns-else-binds-clause-wrong : goal.returns-else-binds-clause-wrong
returns-else-binds-clause-wrong c = not-canonical (rest-wrong c.place-at.ensures c.in_ok-flag.ensures.is (omega arith) c.if-binds.false)
