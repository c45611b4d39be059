use Rattle.std.proofs.Common.{◌≡◌, ◌++◌, map, drop}
use Rattle.rho_term.specs.Parts.{bind_tree}
use Rattle.space_row.proofs.copies.copy_binds.Given as goal

abbrev pub invariant-loop-bind : goal.invariant-loop-bind
invariant-loop-bind l = map bind_tree l.copies.items ++ map bind_tree (drop l.bind-index l.binds.items) ≡ map bind_tree l.binds.items
