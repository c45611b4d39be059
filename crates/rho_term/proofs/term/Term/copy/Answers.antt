use Rattle.rho_term.proofs.Copying.{made-copy}
use Rattle.rho_term.proofs.term.Term.copy.Goals as goal

pub returns : goal.returns
returns c = made-copy _ _ (λ t. t) _ _ _ c.made.ensures c.copy_term-copy.ensures
