use Rattle.calculus.specs.Bytes.{be64}
use Rattle.calculus.proofs.Tails.{length-be64}
use Rattle.code_faults.proofs.Exit.{exit}
use Rattle.code_fields.proofs.reader.Reader.int.Goals as goal

pub returns-in_err-taken-clause-refuses : goal.returns-in_err-taken-clause-refuses
returns-in_err-taken-clause-refuses c = exit _ _ _ c.from_residual.ensures.1 (λ n. c.in_err-taken.ensures.refuses (be64 n) (length-be64 n))

pub returns-in_err-taken-clause-tells : goal.returns-in_err-taken-clause-tells
returns-in_err-taken-clause-tells c = exit _ _ _ c.from_residual.ensures.1 c.in_err-taken.ensures.tells
