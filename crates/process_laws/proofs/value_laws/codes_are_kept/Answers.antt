use Rattle.process_laws.proofs.value_laws.codes_are_kept.Goals as goal
use Rattle.process_laws.proofs.Kept.{codes_are_kept}

pub returns : goal.returns
returns c = record { law = codes_are_kept }
