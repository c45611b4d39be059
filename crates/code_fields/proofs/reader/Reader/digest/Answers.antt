use Rattle.code_faults.proofs.Exit.{exit}
use Rattle.code_faults.proofs.BegunMore.{digest-begun}
use Rattle.code_faults.proofs.Places.{goes-here}
use Rattle.code_fields.proofs.reader.Reader.digest.Goals as goal

pub returns-in_err-taken-clause-begun : goal.returns-in_err-taken-clause-begun
returns-in_err-taken-clause-begun c = exit _ _ _ c.from_residual.ensures.1 (λ s. goes-here _ (digest-begun c.in_err-taken.ensures.left c.in_err-taken.ensures.ends) c.in_err-taken.ensures.place)
