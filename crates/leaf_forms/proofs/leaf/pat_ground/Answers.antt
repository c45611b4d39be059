use Rattle.grammar.specs.Descent.{runs_last}
use Rattle.grammar.specs.Values.{patterns}
use Rattle.token_cursor.specs.Reading.{of_pat}
use Rattle.token_cursor.proofs.Steps.{exit, reads_as}
use Rattle.leaf_forms.proofs.leaf.pat_ground.Goals as goal

pub returns-in_err-value-clause-reads : goal.returns-in_err-value-clause-reads
returns-in_err-value-clause-reads c = λ free. exit of_pat _ _ c.from_residual.ensures.1 (runs_last (c.in_err-value.ensures.reads patterns free))

pub returns-clause-reads : goal.returns-clause-reads
returns-clause-reads c = λ free. reads_as _ _ c.ground_pat.ensures.tree c.ground_pat.ensures.height (runs_last (c.in_ok-value.ensures.reads patterns free))
