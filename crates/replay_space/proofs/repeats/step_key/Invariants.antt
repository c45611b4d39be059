use Rattle.std.proofs.Common.{◌≡◌, ◌∷◌, take, map as each}
use Rattle.calculus.specs.declared.ids.Digest.{Digest}
use Rattle.replay_space.proofs.repeats.step_key.Given as goal

abbrev pub invariant-loop-id : goal.invariant-loop-id
invariant-loop-id l = l.key.items ≡ l.step.cont.0 ∷ each (λ (d : Digest). d.0) (take l.id-index l.id-items)
