use Rattle.std.proofs.Common.{◌≡◌, ◌++◌, map, length}
use Rattle.calculus.specs.Form.{a_bind}
use Rattle.calculus.specs.Tree.{trees}
use Rattle.calculus.specs.Variables.{bound_all}
use Rattle.rho_term.specs.Parts.{bind_tree}
use Rattle.code_faults.specs.Scopes.{scope_of, senses_of}
use Rattle.row_reader.proofs.Joins.{Join}
use Rattle.code_faults.proofs.Rows.{Row}
use Rattle.row_reader.proofs.front.join.Given as goal

abbrev pub invariant-loop-i : goal.invariant-loop-i
invariant-loop-i l = record {
  read : Row bind_tree a_bind (scope_of l.scope.items) l.room l.binds.items l.initial.reader.input.now l.reader.input.now;
  count : length l.binds.items ≡ l._i;
  join : Join bind_tree l.binds.items l.last;
  binding : senses_of l.found.items ≡ senses_of l.initial.found.items ++ bound_all (trees (map bind_tree l.binds.items));
}
