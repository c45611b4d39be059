use Rattle.grammar.specs.Descent.{no_sign, runs_sign}
use Rattle.grammar.specs.Rules.{done}
use Rattle.token_cursor.specs.Cursors.{value_of}
use Rattle.token_cursor.specs.Reading.{of_rest}
use Rattle.token_cursor.proofs.Steps.{carry, leave, reads_at}
use Rattle.leaf_forms.proofs.leaf.name_rest.Goals as goal

pub returns-in_err-expect-clause-reads : goal.returns-in_err-expect-clause-reads
returns-in_err-expect-clause-reads c = λ free f. leave (value_of f) _ _ c.from_residual.ensures.1 (no_sign c.in_err-expect.ensures.reads)

pub returns-in_err-expect-2-clause-reads : goal.returns-in_err-expect-2-clause-reads
returns-in_err-expect-2-clause-reads c = λ free f. leave (value_of f) _ _ c.from_residual-in_err-expect-2.ensures.1 (runs_sign c.in_ok-expect.ensures.reads (no_sign c.in_err-expect-2.ensures.reads))

pub returns-clause-reads : goal.returns-clause-reads
returns-clause-reads c = λ free f. carry (value_of f) _ _ (λ out h. runs_sign c.in_ok-expect.ensures.reads (runs_sign c.in_ok-expect-2.ensures.reads h)) (reads_at _ _ of_rest (λ r. done (f r.tree)) _ (c.remainder.ensures.reads free))
