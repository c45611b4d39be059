use Rattle.calculus_laws.proofs.substitution_laws.renumber_fits.Goals as goal
use Rattle.calculus.proofs.Closing.{renumber_fits}

pub returns : goal.returns
returns c = record { law = renumber_fits }
