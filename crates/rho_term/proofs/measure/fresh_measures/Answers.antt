use Rattle.std.proofs.Common.{refl, arith}
use Rattle.rho_term.proofs.measure.fresh_measures.Goals as goal

pub returns : goal.returns
returns c = (λ w. (w, tt), (refl, omega arith, omega arith))
