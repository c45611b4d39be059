use Rattle.calculus.specs.Meaning.{case_written, pat_written, proc_written}
use Rattle.grammar.specs.Values.{case_of}
use Rattle.form_steps.proofs.Handed.{as_fault, as_read, if_read, tree_as}
use Rattle.token_cursor.proofs.Steps.{turns_back}
use Rattle.std.proofs.Common.{arith, max, ◌≤◌}
use Rattle.form_steps.proofs.constituent.cased.Goals as goal

pub returns-in-Ok-clause-reads : goal.returns-in-Ok-clause-reads
returns-in-Ok-clause-reads c = λ free r ts us after t out h. as_read (λ p. after (case_of (pat_written c.args.pattern.value) (proc_written p.value)) (max c.args.pattern.height p.height)) _ c.in-Ok.is t out (tree_as after _ _ _ _ c.case.ensures.tree c.case.ensures.height h)

pub returns-in-Ok-clause-room : goal.returns-in-Ok-clause-room
returns-in-Ok-clause-room c = λ n l h. let k = if_read (λ p. p.height ≤ n) _ c.in-Ok.is h in omega (arith, k, l, c.case.ensures.height)

pub returns-in-Err-clause-reads : goal.returns-in-Err-clause-reads
returns-in-Err-clause-reads c = λ free r ts us after t. turns_back (λ d. after (case_written d.value) d.height) _ _ c.give_up.ensures (as_fault (λ p. after (case_of (pat_written c.args.pattern.value) (proc_written p.value)) (max c.args.pattern.height p.height)) _ c.in-Err.is t)
