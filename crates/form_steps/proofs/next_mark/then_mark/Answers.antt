use Rattle.grammar.specs.Descent.{no_sign, runs_sign}
use Rattle.grammar.specs.Rules.{sign}
use Rattle.form_steps.proofs.Handed.{as_fault, as_read}
use Rattle.token_cursor.proofs.Steps.{turns_back}
use Rattle.form_steps.proofs.next_mark.then_mark.Goals as goal

pub returns-in-Ok-expect-clause-reads : goal.returns-in-Ok-expect-clause-reads
returns-in-Ok-expect-clause-reads g c = λ free r ts after t out h. as_read (λ x. sign c.args.mark (after x)) _ c.in-Ok.is t out (runs_sign c.in-Ok-expect.ensures.reads h)

pub returns-in-Err-expect-clause-reads : goal.returns-in-Err-expect-clause-reads
returns-in-Err-expect-clause-reads g c = λ free r ts after t. turns_back after _ _ c.give_up.ensures (as_read (λ x. sign c.args.mark (after x)) _ c.in-Ok.is t _ (no_sign c.in-Err-expect.ensures.reads))

pub returns-in-Err-clause-reads : goal.returns-in-Err-clause-reads
returns-in-Err-clause-reads g c = λ free r ts after t. as_fault (λ x. sign c.args.mark (after x)) _ c.in-Err.is t
