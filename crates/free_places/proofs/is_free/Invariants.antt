use Rattle.std.proofs.Common.{◌≡◌, drop}
use Rattle.free_places.specs.Places.{has}
use Rattle.free_places.proofs.is_free.Given as goal

abbrev pub invariant-loop-place : goal.invariant-loop-place
invariant-loop-place l = has l.used l.j ≡ has (drop l.place-index l.used) l.j
