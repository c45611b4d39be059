use Rattle.std.proofs.Common.{◌≡◌, ◌<◌, ◌^◌, map}
use Rattle.calculus.specs.Unfolding.{placed_from}
use Rattle.rho_term.specs.Parts.{bind_tree}
use Rattle.offered_rows.specs.Binds.{keyed_of, with_channel_code}
use Rattle.offered_rows.proofs.Sorting.{total}
use Rattle.offered_rows.proofs.placed.placed_binds.Given as goal

abbrev pub invariant-loop-bind : goal.invariant-loop-bind
invariant-loop-bind l =
    record {
      keyed : map keyed_of l.keyed.items ≡ map with_channel_code (placed_from 0 (map bind_tree l.yielded));
      first : l.first ≡ total (map bind_tree l.yielded);
      fits : l.first < 2 ^ 32;
    }
