use Rattle.rho_term.specs.Parts.{bind_tree}
use Rattle.rho_term.proofs.Copying.{made-copy}
use Rattle.rho_term.proofs.term.TermBind.copy.Goals as goal

pub returns : goal.returns
returns c = made-copy _ _ bind_tree _ _ _ c.made.ensures c.copy_bind-copy.ensures
