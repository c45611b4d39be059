use Rattle.rho_term.specs.Parts.{part_tree}
use Rattle.rho_term.proofs.Copying.{made-copy}
use Rattle.rho_term.proofs.term.Part.copy.Goals as goal

pub returns : goal.returns
returns c = made-copy _ _ part_tree _ _ _ c.made.ensures c.copy_part-copy.ensures
