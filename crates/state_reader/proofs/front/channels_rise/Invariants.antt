use Rattle.std.proofs.Common.{◌≤◌, map, take}
use Rattle.calculus.specs.Code.{code}
use Rattle.calculus.specs.Storing.{AreRising}
use Rattle.state_reader.proofs.front.channels_rise.Given as goal

abbrev pub invariant-loop-i : goal.invariant-loop-i
invariant-loop-i l = record {
  from : 1 ≤ l.i;
  rising : AreRising (take l.i (map (λ b. code b.channel) l.binds.items));
}
