use Rattle.std.proofs.Common.{◌≡◌, map}
use Rattle.calculus.specs.Unfolding.{opened, all_readable}
use Rattle.offered_rows.proofs.names.opened_names.Given as goal

abbrev pub invariant-loop-channel : goal.invariant-loop-channel
invariant-loop-channel l =
    record {
      names : l.names.items ≡ map (λ c. c.name) (map opened l.yielded);
      readable : l.readable ≡ all_readable (map opened l.yielded);
    }
