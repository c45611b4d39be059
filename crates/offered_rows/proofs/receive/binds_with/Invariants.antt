use Rattle.std.proofs.Common.{◌≡◌, ◌+◌, ◌++◌, length, map, drop}
use Rattle.rho_term.specs.Parts.{bind_tree}
use Rattle.offered_rows.specs.Binds.{binds_on}
use Rattle.offered_rows.proofs.receive.binds_with.Given as goal

abbrev pub invariant-loop-bind : goal.invariant-loop-bind
invariant-loop-bind l =
    record {
      named : map bind_tree l.named.items ++ binds_on l.names.items (map bind_tree (drop l.bind-index l.binds.items)) ≡ binds_on l.fn.names.items (map bind_tree l.binds.items);
      count : length l.names.items + l.bind-index ≡ length l.binds.items;
    }
