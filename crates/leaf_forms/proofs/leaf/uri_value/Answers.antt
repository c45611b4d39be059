use Rattle.grammar.specs.Descent.{runs_done, runs_text}
use Rattle.token_cursor.specs.Reading.{of_ground}
use Rattle.token_cursor.proofs.Steps.{exit, lacks}
use Rattle.leaf_forms.proofs.leaf.uri_value.Goals as goal

pub returns-in_err-value-clause-reads : goal.returns-in_err-value-clause-reads
returns-in_err-value-clause-reads c = λ side free. exit (of_ground side) _ _ c.from_residual.ensures.1 (lacks _ c.in_err-value.ensures.reads)

pub returns-clause-reads : goal.returns-clause-reads
returns-clause-reads c = λ side free. runs_text c.in_ok-value.ensures.reads (runs_done)
