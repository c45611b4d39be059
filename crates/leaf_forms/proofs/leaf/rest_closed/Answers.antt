use Rattle.grammar.specs.Descent.{no_at, no_sign, runs_at, runs_sign}
use Rattle.token_cursor.specs.Cursors.{value_of}
use Rattle.token_cursor.proofs.Steps.{carry, closes_on, leave}
use Rattle.leaf_forms.proofs.leaf.rest_closed.Goals as goal

pub returns-in_err-expect-clause-reads : goal.returns-in_err-expect-clause-reads
returns-in_err-expect-clause-reads c = λ free f. leave (value_of f) _ _ c.from_residual.ensures.1 (no_sign c.in_err-expect.ensures.reads)

pub returns-in_err-rest-clause-reads : goal.returns-in_err-rest-clause-reads
returns-in_err-rest-clause-reads c = λ free f. leave (value_of f) _ _ c.from_residual-in_err-rest.ensures.1 (runs_sign c.in_ok-expect.ensures.reads (no_at (c.in_err-rest.ensures.reads _)))

pub returns-clause-reads : goal.returns-clause-reads
returns-clause-reads c = λ free f. carry (value_of f) _ _ (λ out h. runs_sign c.in_ok-expect.ensures.reads (runs_at (c.in_ok-rest.ensures.reads _) h)) (closes_on _ _ _ _ (value_of f) c.in_ok-rest.rest _ c.closed.ensures.reads)
