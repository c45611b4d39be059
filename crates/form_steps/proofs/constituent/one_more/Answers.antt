use Rattle.form_steps.proofs.Handed.{as_fault, as_read, if_read, listed, made_room}
use Rattle.token_cursor.proofs.Steps.{turns_back}
use Rattle.std.proofs.Common.{[], arith, max, ◌++◌, ◌∷◌, ◌≤◌}
use Rattle.form_steps.proofs.constituent.one_more.Goals as goal

pub returns-in-Ok-clause-reads : goal.returns-in-Ok-clause-reads
returns-in-Ok-clause-reads g c = λ free r ts us after t. listed after _ _ _ c.push.ensures.items c.push.ensures.height (as_read (λ p. after (c.args.parts.value.items ++ (p.value ∷ [])) (max c.args.parts.height p.height)) _ c.in-Ok.is t)

pub returns-in-Ok-clause-room : goal.returns-in-Ok-clause-room
returns-in-Ok-clause-room g c = λ n l h. let k = if_read (λ p. p.height ≤ n) _ c.in-Ok.is h in made_room _ c.push.ensures.height (omega (arith, k, l))

pub returns-in-Err-clause-reads : goal.returns-in-Err-clause-reads
returns-in-Err-clause-reads g c = λ free r ts us after t. turns_back (λ ps. after ps.value.items ps.height) _ _ c.give_up.ensures (as_fault (λ p. after (c.args.parts.value.items ++ (p.value ∷ [])) (max c.args.parts.height p.height)) _ c.in-Err.is t)
