use Rattle.form_steps.proofs.Handed.{as_fault, as_read, if_read, tree_as}
use Rattle.token_cursor.proofs.Steps.{turns_back}
use Rattle.std.proofs.Common.{arith, max, ◌≤◌}
use Rattle.form_steps.proofs.constituent.paired.Goals as goal

pub returns-in-Ok-clause-reads : goal.returns-in-Ok-clause-reads
returns-in-Ok-clause-reads g c = λ free r ts us after t out h. as_read (λ v. after (c.args.key.value, v.value) (max c.args.key.height v.height)) _ c.in-Ok.is t out (tree_as after _ _ _ _ c.pair.ensures.value c.pair.ensures.height h)

pub returns-in-Ok-clause-room : goal.returns-in-Ok-clause-room
returns-in-Ok-clause-room g c = λ n l h. let k = if_read (λ v. v.height ≤ n) _ c.in-Ok.is h in omega (arith, k, l, c.pair.ensures.height)

pub returns-in-Err-clause-reads : goal.returns-in-Err-clause-reads
returns-in-Err-clause-reads g c = λ free r ts us after t. turns_back (λ p. after p.value p.height) _ _ c.give_up.ensures (as_fault (λ v. after (c.args.key.value, v.value) (max c.args.key.height v.height)) _ c.in-Err.is t)
