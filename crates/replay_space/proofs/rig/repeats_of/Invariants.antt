use Rattle.std.proofs.Common.{◌≡◌, [], take}
use Rattle.event_log.specs.View.{steps_of}
use Rattle.replay_space.specs.Rigs.{AreCounts, IsIndexOf, repeats_after}
use Rattle.replay_space.proofs.rig.repeats_of.Given as goal

abbrev pub invariant-loop-i : goal.invariant-loop-i
invariant-loop-i l =
    IsIndexOf (steps_of l.steps) l.index
    → record {
      counts : AreCounts (steps_of l.steps) (steps_of (take l.i l.steps)) l.counts.entries;
      repeats : l.repeats.items ≡ repeats_after [] (steps_of (take l.i l.steps));
    }
