use Rattle.std.proofs.Common.{◌≡◌, ℕ, ◌<◌, ◌≤◌, length, get_or}
use Rattle.substitution.specs.Renumbered.{index_from}
use Rattle.substitution.proofs.renumbering.set_indices.Given as goal

abbrev pub invariant-loop-place : goal.invariant-loop-place
invariant-loop-place l = record {
  within : l.place ≤ length l.places;
  known : (k : ℕ) → k < length l.places → get_or l.indices k 0 ≡ index_from l.place l.places k;
}

abbrev pub decreases-loop-place : goal.decreases-loop-place
decreases-loop-place l = l.place
