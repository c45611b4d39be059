use Rattle.std.proofs.Common.{◌≡◌, ◌≤◌, ◌+◌, List, ◌∷◌, [], take, length, map as each}
use Rattle.calculus.specs.declared.ids.Digest.{Digest}
use Rattle.calculus.specs.Log.{Step}
use Rattle.replay_space.specs.Rigs.{AreNamed}
use Rattle.replay_space.proofs.naming.Namings.add_step.Given as goal

abbrev pub invariant-loop-place : goal.invariant-loop-place
invariant-loop-place l =
    record {
      named : (before : List Step) → length before ≡ l.index → AreNamed before [] l.fn.self → AreNamed before (l.step.cont.0 ∷ each (λ (d : Digest). d.0) (take l.place l.step.taken.items)) l.self;
      few : length l.self.all.items ≤ length l.fn.self.all.items + 1 + l.place;
    }
