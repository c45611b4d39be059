use Rattle.std.proofs.Common.{◌≡◌, map}
use Rattle.calculus.specs.Unfolding.{all_places}
use Rattle.rho_term.specs.Parts.{bind_tree}
use Rattle.offered_rows.specs.Binds.{placed_of}
use Rattle.offered_rows.proofs.placed.apart.Given as goal

abbrev pub invariant-loop-one : goal.invariant-loop-one
invariant-loop-one l =
    record {
      binds : map bind_tree l.binds.items ≡ map (λ p. p.0) (map placed_of l.yielded);
      places : l.places.items ≡ all_places (map placed_of l.yielded);
    }
