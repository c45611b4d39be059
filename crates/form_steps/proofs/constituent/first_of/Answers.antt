use Rattle.form_steps.proofs.Handed.{as_fault, as_read, if_read, listed, made_room}
use Rattle.std.proofs.Common.{[], ◌∷◌, ◌≤◌}
use Rattle.form_steps.proofs.constituent.first_of.Goals as goal

pub returns-in-Ok-clause-reads : goal.returns-in-Ok-clause-reads
returns-in-Ok-clause-reads g c = λ free r ts us after t. listed after _ _ _ c.start.ensures.items c.start.ensures.height (as_read (λ p. after (p.value ∷ []) p.height) _ c.in-Ok.is t)

pub returns-in-Ok-clause-room : goal.returns-in-Ok-clause-room
returns-in-Ok-clause-room g c = λ n h. made_room _ c.start.ensures.height (if_read (λ p. p.height ≤ n) _ c.in-Ok.is h)

pub returns-in-Err-clause-reads : goal.returns-in-Err-clause-reads
returns-in-Err-clause-reads g c = λ free r ts us after t. as_fault (λ p. after (p.value ∷ []) p.height) _ c.in-Err.is t
