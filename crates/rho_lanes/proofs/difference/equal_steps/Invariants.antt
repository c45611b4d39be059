use Rattle.std.proofs.Common.{◌≡◌, ◌*◌, take}
use Rattle.rho_lanes.proofs.difference.equal_steps.Given as goal

abbrev pub invariant-loop-step : goal.invariant-loop-step
invariant-loop-step l = take (l.step * 16) l.a ≡ take (l.step * 16) l.b
