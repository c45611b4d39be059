use Rattle.std.proofs.Common.{◌≡◌, ◌-◌}
use Rattle.calculus.specs.Unfolding.{from_on}
use Rattle.offered_rows.proofs.placed.places_between.Given as goal

abbrev pub invariant-loop-place : goal.invariant-loop-place
invariant-loop-place l = l.places.items ≡ from_on l.first (l.place - l.first)
