use Rattle.std.proofs.Common.{◌≡◌, List, ℕ, length, false, take, map as each}
use Rattle.calculus.specs.declared.ids.Digest.{Digest}
use Rattle.calculus.specs.Log.{Step}
use Rattle.calculus.specs.Steps.{is_one_of}
use Rattle.racing_replays.specs.Counted.{uses}
use Rattle.replay_space.specs.Rigs.{IsIndexOf}
use Rattle.replay_space.proofs.index.Index.has_lone_id.Given as goal

abbrev pub invariant-loop-i : goal.invariant-loop-i
invariant-loop-i l = (ss : List Step) (x : List ℕ) → IsIndexOf ss l.self → length (uses x 0 ss) ≡ 1 → is_one_of x (each (λ (d : Digest). d.0) (take l.i l.step.taken.items)) ≡ false
