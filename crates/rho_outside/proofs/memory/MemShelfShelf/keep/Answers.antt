use Rattle.std.proofs.Common.{ap}
use Rattle.rho_outside.proofs.memory.MemShelfShelf.keep.Goals as goal

pub returns-in-Err-clause-others : goal.returns-in-Err-clause-others
returns-in-Err-clause-others c = λ q _. ap (λ f. f q) c.in-Err.ensures.same
