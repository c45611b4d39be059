use Rattle.rho_eval.proofs.Parts.{itself}
use Rattle.rho_eval.proofs.owned.is_own_value.Goals as goal

pub returns-in_default : goal.returns-in_default
returns-in_default c = let d = c.in_default in λ e p. itself p c.args.part.now d.not-List d.not-Tuple d.not-Set d.not-Map d.not-Bundle d.not-Unary d.not-Binary d.not-Method
