use Rattle.std.proofs.Common.{◌≡◌, ◌≤◌, ◌<◌, ℕ, true, get_or}
use Rattle.rho_lanes.specs.Classes.{is_in}
use Rattle.rho_lanes.proofs.class.class_run.Given as goal

abbrev pub invariant-loop-i : goal.invariant-loop-i
invariant-loop-i l = (k : ℕ) → l.from ≤ k → k < l.i → is_in l.class (get_or l.bytes k 0) ≡ true
