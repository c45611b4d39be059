use Rattle.code_faults.proofs.Exit.{exit}
use Rattle.row_reader.proofs.Joins.{cut-here}
use Rattle.row_reader.proofs.SentRows.{none-refused, none-there}
use Rattle.row_reader.proofs.front.any_row.Goals as goal

pub returns-in_err-byte-clause-refuses : goal.returns-in_err-byte-clause-refuses
returns-in_err-byte-clause-refuses c = exit _ _ _ c.from_residual.ensures.1 (none-refused c.in_err-byte.ensures.refuses)

pub returns-in_err-byte-clause-begun : goal.returns-in_err-byte-clause-begun
returns-in_err-byte-clause-begun c = exit _ _ _ c.from_residual.ensures.1 (cut-here _ c.in_err-byte.ensures.place (λ z. none-there z))
