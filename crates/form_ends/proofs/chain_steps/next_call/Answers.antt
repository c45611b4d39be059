use Rattle.calculus.specs.Meaning.{proc_written}
use Rattle.form_ends.proofs.Cycle.{at_step}
use Rattle.form_ends.proofs.Lengths.{none_given}
use Rattle.form_steps.proofs.Handed.{as_fault, as_read, if_read}
use Rattle.form_steps.specs.Steps.{HasRoomToCall, PassesName, after_target}
use Rattle.grammar.specs.Descent.{runs_done, runs_last}
use Rattle.grammar.specs.Rules.{Sort, last}
use Rattle.token_cursor.proofs.Steps.{gives_up}
use Rattle.token_cursor.specs.Reading.{of_proc}
use Rattle.std.proofs.Common.{subst, ◌≤◌}
use Rattle.form_ends.proofs.chain_steps.next_call.Goals as goal

pub returns-in-Ok-Some-clause-reads : goal.returns-in-Ok-Some-clause-reads
returns-in-Ok-Some-clause-reads c = λ r ts t out h. as_read (λ p. last (Sort.MethTail (of_proc p))) _ c.in-Ok.is t out (runs_last (at_step (after_target (of_proc c.in-Ok.part)) _ _ c.in-Ok-Some.field-0-is (c.in-Ok-Some.ensures.reads (proc_written c.in-Ok.part.value)) _ h))

pub returns-in-Ok-Some-clause-room : goal.returns-in-Ok-Some-clause-room
returns-in-Ok-Some-clause-room c = subst (HasRoomToCall c.in-Ok.part.height c.args.free) c.in-Ok-Some.field-0-is c.in-Ok-Some.ensures.room

pub returns-in-Ok-Some-clause-shorter : goal.returns-in-Ok-Some-clause-shorter
returns-in-Ok-Some-clause-shorter c = subst (PassesName _ _) c.in-Ok-Some.field-0-is c.in-Ok-Some.ensures.shorter

pub returns-in-Ok-None-clause-reads : goal.returns-in-Ok-None-clause-reads
returns-in-Ok-None-clause-reads c = λ r ts t. as_read (λ p. last (Sort.MethTail (of_proc p))) _ c.in-Ok.is t _ (runs_last (at_step (after_target (of_proc c.in-Ok.part)) _ _ c.in-Ok-None.field-0-is (c.in-Ok-None.ensures.reads (proc_written c.in-Ok.part.value)) _ runs_done))

pub returns-in-Ok-None-clause-within : goal.returns-in-Ok-None-clause-within
returns-in-Ok-None-clause-within c = λ n l. if_read (λ p. p.height ≤ n) _ c.in-Ok.is l

pub returns-in-Ok-None-clause-shorter : goal.returns-in-Ok-None-clause-shorter
returns-in-Ok-None-clause-shorter c = subst (PassesName _ _) c.in-Ok-None.field-0-is c.in-Ok-None.ensures.shorter

pub returns-in-Err-begin_call-clause-reads : goal.returns-in-Err-begin_call-clause-reads
returns-in-Err-begin_call-clause-reads c = λ r ts t. gives_up of_proc _ _ c.give_up.ensures (as_read (λ p. last (Sort.MethTail (of_proc p))) _ c.in-Ok.is t _ (runs_last (c.in-Err-begin_call.ensures.reads (proc_written c.in-Ok.part.value))))

pub returns-in-Err-begin_call-clause-within : goal.returns-in-Err-begin_call-clause-within
returns-in-Err-begin_call-clause-within c = λ n l. none_given n _ _ c.give_up.ensures

pub returns-in-Err-clause-reads : goal.returns-in-Err-clause-reads
returns-in-Err-clause-reads c = λ r ts t. as_fault (λ p. last (Sort.MethTail (of_proc p))) _ c.in-Err.is t
