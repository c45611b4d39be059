use Rattle.next_states.proofs.changed.Changed.set.Goals as goal

pub returns-in-Ok : goal.returns-in-Ok
returns-in-Ok c = λ f. (f, c.in-Ok.ensures.updates.0)
