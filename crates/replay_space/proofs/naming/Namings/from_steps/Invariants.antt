use Rattle.std.proofs.Common.{◌≤◌, ◌*◌, [], take, length}
use Rattle.event_log.specs.View.{steps_of}
use Rattle.replay_space.specs.Rigs.{AreNamed}
use Rattle.replay_space.proofs.naming.Namings.from_steps.Given as goal

abbrev pub invariant-loop-i : goal.invariant-loop-i
invariant-loop-i l =
    record {
      named : AreNamed (steps_of (take l.i l.steps)) [] l.namings;
      few : length l.namings.all.items ≤ 17 * l.i;
    }
