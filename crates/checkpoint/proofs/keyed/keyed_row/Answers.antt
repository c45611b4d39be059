use Rattle.std.proofs.Common.{ℕ, List, ap}
use Rattle.checkpoint.proofs.keyed.keyed_row.Goals as goal

pub returns-clause-keyed : goal.returns-clause-keyed
returns-clause-keyed c = (ap (λ (p : List ℕ × ℕ). p.0) c.requires.mark, c.requires.code)
