use Rattle.std.proofs.Common.{◌≡◌, ◌≤◌, ◌+◌, ◌*◌, [], ◌++◌, map, length}
use Rattle.std.specs.Prelude.{All, false}
use Rattle.calculus.specs.Form.{term, part, a_bind, a_case, pat, name_pat, pat_part, pair_of, wides}
use Rattle.calculus.specs.Tree.{trees}
use Rattle.calculus.specs.Variables.{bound_all}
use Rattle.rho_term.specs.Normal.{IsOrdered}
use Rattle.rho_term.specs.Parts.{part_tree, pat_part_tree, pair_tree, bind_tree, case_tree}
use Rattle.code_faults.specs.Scopes.{scope_of, senses_of}
use Rattle.code_faults.proofs.Rows.{Row}
use Rattle.code_faults.proofs.Bags.{Bag}
use Rattle.term_code.proofs.+read.Given as goal

abbrev pub decreases-terms::read_part : goal.decreases-terms::read_part
decreases-terms::read_part l = 8 * l.room + 1

abbrev pub decreases-patterns::read_pat_part : goal.decreases-patterns::read_pat_part
decreases-patterns::read_pat_part l = 8 * l.room + 2

abbrev pub decreases-terms::read_term : goal.decreases-terms::read_term
decreases-terms::read_term l = 8 * l.room + 3

abbrev pub decreases-patterns::read_pat : goal.decreases-patterns::read_pat
decreases-patterns::read_pat l = 8 * l.room + 3

abbrev pub decreases-patterns::read_name_pat : goal.decreases-patterns::read_name_pat
decreases-patterns::read_name_pat l = 8 * l.room + 4

abbrev pub decreases-patterns::read_free_pat : goal.decreases-patterns::read_free_pat
decreases-patterns::read_free_pat l = 8 * l.room + 4

abbrev pub decreases-terms::read_terms : goal.decreases-terms::read_terms
decreases-terms::read_terms l = 8 * l.room + 5

abbrev pub decreases-terms::read_members : goal.decreases-terms::read_members
decreases-terms::read_members l = 8 * l.room + 5

abbrev pub decreases-terms::read_pairs : goal.decreases-terms::read_pairs
decreases-terms::read_pairs l = 8 * l.room + 5

abbrev pub decreases-terms::read_cases : goal.decreases-terms::read_cases
decreases-terms::read_cases l = 8 * l.room + 5

abbrev pub decreases-patterns::read_pats : goal.decreases-patterns::read_pats
decreases-patterns::read_pats l = 8 * l.room + 5

abbrev pub decreases-patterns::read_name_pats : goal.decreases-patterns::read_name_pats
decreases-patterns::read_name_pats l = 8 * l.room + 5

abbrev pub decreases-patterns::read_pat_pairs : goal.decreases-patterns::read_pat_pairs
decreases-patterns::read_pat_pairs l = 8 * l.room + 5

abbrev pub decreases-terms::read_binds : goal.decreases-terms::read_binds
decreases-terms::read_binds l = 8 * l.room + 6

abbrev pub decreases-terms::read_form : goal.decreases-terms::read_form
decreases-terms::read_form l = 8 * l.room + 8

abbrev pub decreases-terms::read_binder : goal.decreases-terms::read_binder
decreases-terms::read_binder l = 8 * l.room + 7

abbrev pub decreases-terms::read_processes : goal.decreases-terms::read_processes
decreases-terms::read_processes l = 8 * l.room + 7

abbrev pub decreases-patterns::read_pat_form : goal.decreases-patterns::read_pat_form
decreases-patterns::read_pat_form l = 8 * l.room + 8

abbrev pub decreases-patterns::read_connective : goal.decreases-patterns::read_connective
decreases-patterns::read_connective l = 8 * l.room + 7

abbrev pub invariant-terms::read_terms-loop-i : goal.invariant-terms::read_terms-loop-i
invariant-terms::read_terms-loop-i l = record {
  read : Row (λ t. t) term (scope_of l.scope.items) l.room l.terms.items l.initial.reader.input.now l.reader.input.now;
  count : length l.terms.items ≡ l._i;
}

abbrev pub invariant-terms::read_members-loop-i : goal.invariant-terms::read_members-loop-i
invariant-terms::read_members-loop-i l = record {
  read : Bag (λ t. t) term (scope_of l.scope.items) l.room l.terms.items l.initial.reader.input.now l.reader.input.now l.last;
  count : length l.terms.items ≡ l._i;
}

abbrev pub invariant-terms::read_pairs-loop-i : goal.invariant-terms::read_pairs-loop-i
invariant-terms::read_pairs-loop-i l = record {
  read : Bag pair_tree (pair_of term) (scope_of l.scope.items) l.room l.pairs.items l.initial.reader.input.now l.reader.input.now l.last;
  count : length l.pairs.items ≡ l._i;
}

abbrev pub invariant-terms::read_term-loop-i : goal.invariant-terms::read_term-loop-i
invariant-terms::read_term-loop-i l = record {
  read : Bag part_tree part (scope_of l.scope.items) l.room l.parts.items l.initial.reader.input.now l.reader.input.now l.last;
  count : length l.parts.items ≡ l._i;
  ordered : All (λ p. IsOrdered (part_tree p)) l.parts.items;
}

abbrev pub invariant-terms::read_cases-loop-i : goal.invariant-terms::read_cases-loop-i
invariant-terms::read_cases-loop-i l = record {
  read : Row case_tree a_case (scope_of l.scope.items) l.room l.cases.items l.initial.reader.input.now l.reader.input.now;
  count : length l.cases.items ≡ l._i;
}

abbrev pub invariant-terms::read_binds-loop-i : goal.invariant-terms::read_binds-loop-i
invariant-terms::read_binds-loop-i l = record {
  read : Row bind_tree a_bind (scope_of l.scope.items) l.room l.binds.items l.initial.reader.input.now l.reader.input.now;
  count : length l.binds.items ≡ l._i;
  binding : senses_of l.found.items ≡ senses_of l.initial.found.items ++ bound_all (trees (map bind_tree l.binds.items));
}

abbrev pub invariant-patterns::read_pat-loop-i : goal.invariant-patterns::read_pat-loop-i
invariant-patterns::read_pat-loop-i l = record {
  quiet : l.binds ≡ false → bound_all (trees (map pat_part_tree l.parts.items)) ≡ [];
  read : Row pat_part_tree pat_part (scope_of l.scope.items) l.room l.parts.items l.initial.reader.input.now l.reader.input.now;
  count : length l.parts.items ≡ l.i;
  ordered : All (λ p. IsOrdered (pat_part_tree p)) l.parts.items;
  binding : senses_of l.found.items ≡ senses_of l.initial.found.items ++ bound_all (trees (map pat_part_tree l.parts.items));
  wide : wides (map pat_part_tree l.parts.items) ≡ l.wide;
  one : l.wide ≤ 1;
  thin : l.i ≤ 8 + l.wide;
}

abbrev pub invariant-patterns::read_pats-loop-i : goal.invariant-patterns::read_pats-loop-i
invariant-patterns::read_pats-loop-i l = record {
  quiet : l.row.binds ≡ false → bound_all (trees (map (λ t. t) l.pats.items)) ≡ [];
  read : Row (λ t. t) pat (scope_of l.scope.items) l.room l.pats.items l.initial.reader.input.now l.reader.input.now;
  count : length l.pats.items ≡ l._i;
  binding : senses_of l.found.items ≡ senses_of l.initial.found.items ++ bound_all (trees l.pats.items);
}

abbrev pub invariant-patterns::read_name_pats-loop-i : goal.invariant-patterns::read_name_pats-loop-i
invariant-patterns::read_name_pats-loop-i l = record {
  read : Row (λ t. t) name_pat (scope_of l.scope.items) l.room l.pats.items l.initial.reader.input.now l.reader.input.now;
  count : length l.pats.items ≡ l._i;
  binding : senses_of l.found.items ≡ senses_of l.initial.found.items ++ bound_all (trees l.pats.items);
}

abbrev pub invariant-patterns::read_pat_pairs-loop-i : goal.invariant-patterns::read_pat_pairs-loop-i
invariant-patterns::read_pat_pairs-loop-i l = record {
  quiet : l.binds ≡ false → bound_all (trees (map pair_tree l.pairs.items)) ≡ [];
  read : Row pair_tree (pair_of pat) (scope_of l.scope.items) l.room l.pairs.items l.initial.reader.input.now l.reader.input.now;
  count : length l.pairs.items ≡ l._i;
  binding : senses_of l.found.items ≡ senses_of l.initial.found.items ++ bound_all (trees (map pair_tree l.pairs.items));
}
