use Rattle.form_ends.proofs.Lengths.{none_given}
use Rattle.form_ends.proofs.Processes.{goes_on, stops}
use Rattle.form_steps.proofs.Handed.{as_fault, as_read, if_read}
use Rattle.grammar.specs.Descent.{no_opens, runs_opens}
use Rattle.grammar.specs.Rules.{last}
use Rattle.token_cursor.proofs.Steps.{gives_up}
use Rattle.token_cursor.specs.Levels.{tail_of}
use Rattle.token_cursor.specs.Reading.{of_proc}
use Rattle.std.proofs.Common.{◌≤◌}
use Rattle.form_ends.proofs.chain_steps.begin_right.Goals as goal

pub returns-in-Ok-opens-clause-reads : goal.returns-in-Ok-opens-clause-reads
returns-in-Ok-opens-clause-reads c = λ r ts t out h. as_read (λ p. last (tail_of c.args.level (of_proc p))) _ c.in-Ok.is t out (goes_on _ (of_proc c.in-Ok.part) _ _ _ c.operator.ensures c.in-Some.is (runs_opens c.in-Ok-opens.ensures.reads h))

pub returns-in-Err-opens-clause-reads : goal.returns-in-Err-opens-clause-reads
returns-in-Err-opens-clause-reads c = λ r ts t. gives_up of_proc _ _ c.give_up.ensures (as_read (λ p. last (tail_of c.args.level (of_proc p))) _ c.in-Ok.is t _ (goes_on _ (of_proc c.in-Ok.part) _ _ _ c.operator.ensures c.in-Some.is (no_opens c.in-Err-opens.ensures.reads)))

pub returns-in-Err-opens-clause-within : goal.returns-in-Err-opens-clause-within
returns-in-Err-opens-clause-within c = λ n l. none_given n _ _ c.give_up.ensures

pub returns-in-None-clause-reads : goal.returns-in-None-clause-reads
returns-in-None-clause-reads c = λ r ts t. as_read (λ p. last (tail_of c.args.level (of_proc p))) _ c.in-Ok.is t _ (stops _ (of_proc c.in-Ok.part) _ c.operator.ensures c.in-None.is)

pub returns-in-None-clause-within : goal.returns-in-None-clause-within
returns-in-None-clause-within c = λ n l. if_read (λ p. p.height ≤ n) _ c.in-Ok.is l

pub returns-in-Err-clause-reads : goal.returns-in-Err-clause-reads
returns-in-Err-clause-reads c = λ r ts t. as_fault (λ p. last (tail_of c.args.level (of_proc p))) _ c.in-Err.is t
