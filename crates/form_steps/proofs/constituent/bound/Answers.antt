use Rattle.grammar.specs.Values.{bind_of}
use Rattle.form_steps.proofs.Handed.{as_fault, as_read, if_read}
use Rattle.form_steps.proofs.Turning.{tails}
use Rattle.token_cursor.proofs.Steps.{turns_back}
use Rattle.token_cursor.specs.Reading.{of_bind, of_left, of_name}
use Rattle.std.proofs.Common.{arith, ◌≤◌}
use Rattle.form_steps.proofs.constituent.bound.Goals as goal

pub returns-in-Ok-clause-reads : goal.returns-in-Ok-clause-reads
returns-in-Ok-clause-reads c = λ free r ts us after t out h. as_read (λ n. after (bind_of (of_left c.args.left) (of_name n))) _ c.in-Ok.is t out (tails after _ (of_bind c.bind.result) c.bind.ensures.tree c.bind.ensures.height h)

pub returns-in-Ok-clause-room : goal.returns-in-Ok-clause-room
returns-in-Ok-clause-room c = λ n l h. let k = if_read (λ v. v.height ≤ n) _ c.in-Ok.is h in omega (arith, k, l, c.bind.ensures.height)

pub returns-in-Err-clause-reads : goal.returns-in-Err-clause-reads
returns-in-Err-clause-reads c = λ free r ts us after t. turns_back (λ b. after (of_bind b)) _ _ c.give_up.ensures (as_fault (λ n. after (bind_of (of_left c.args.left) (of_name n))) _ c.in-Err.is t)
