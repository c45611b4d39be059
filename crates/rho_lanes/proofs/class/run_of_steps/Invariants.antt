use Rattle.std.proofs.Common.{◌≡◌, ◌-◌, ◌≤◌, ◌<◌, ℕ, true, length, get_or}
use Rattle.rho_lanes.specs.Classes.{is_in}
use Rattle.rho_lanes.proofs.class.run_of_steps.Given as goal

abbrev pub invariant-loop-end : goal.invariant-loop-end
invariant-loop-end l = record {
  from : l.from ≤ l.end;
  within : l.end ≤ length l.bytes;
  each : (i : ℕ) → l.from ≤ i → i < l.end → is_in l.class (get_or l.bytes i 0) ≡ true;
}

abbrev pub decreases-loop-end : goal.decreases-loop-end
decreases-loop-end l = length l.bytes - l.end
