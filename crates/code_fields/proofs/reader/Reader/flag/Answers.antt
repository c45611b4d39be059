use Rattle.std.proofs.Common.{arith}
use Rattle.code_faults.proofs.Exit.{exit}
use Rattle.code_faults.proofs.Blaming.{none-told, not-canonical}
use Rattle.code_faults.proofs.BlamedLeaves.{byte-wrong}
use Rattle.code_fields.proofs.reader.Reader.flag.Goals as goal

pub returns-in_err-byte-clause-wrong : goal.returns-in_err-byte-clause-wrong
returns-in_err-byte-clause-wrong c = exit _ _ _ c.from_residual.ensures.1 (none-told _ c.in_err-byte.ensures.tells)

pub returns-then-byte-most-clause-wrong : goal.returns-then-byte-most-clause-wrong
returns-then-byte-most-clause-wrong c = not-canonical (byte-wrong c.place-at.ensures c.in_ok-byte.ensures.is (λ l. omega (arith, l)))
