use Rattle.form_ends.specs.Reading.{after_in}
use Rattle.token_cursor.proofs.Steps.{carry, closes_on, leave}
use Rattle.form_ends.proofs.next_marks.declared_names.Goals as goal

pub returns-in_err-names-clause-reads : goal.returns-in_err-names-clause-reads
returns-in_err-names-clause-reads c = λ free. leave after_in _ _ c.from_residual.ensures.1 (c.in_err-names.ensures.reads free)

pub returns-clause-reads : goal.returns-clause-reads
returns-clause-reads c = λ free. carry after_in _ _ (c.in_ok-names.ensures.reads free) (closes_on _ _ _ _ after_in c.in_ok-names.names _ c.closed.ensures.reads)
