use Rattle.std.proofs.Common.{◌≡◌, map, drop, false}
use Rattle.calculus.specs.Written.{writtens}
use Rattle.calculus.specs.Meaning.{proc_written, pat_written, name_pat_written, bind_written, case_written}
use Rattle.scope.specs.Binding.{all_variables, inside}
use Rattle.scope.specs.Rules.{outside, after, all_breaks}
use Rattle.open_processes.specs.Pairs.{proc_pair, pat_pair}
use Rattle.scope_check.proofs.check.+check.Given as goal

abbrev pub invariant-check_processes-loop-p : goal.invariant-check_processes-loop-p
invariant-check_processes-loop-p l = record {
  scope : l.scope ≡ l.initial.scope;
  rules : all_breaks (writtens (map proc_written l.ps.items)) l.scope outside ≡ all_breaks (writtens (map proc_written (drop l.p-index l.ps.items))) l.scope outside;
}

abbrev pub invariant-check_pairs-loop-p : goal.invariant-check_pairs-loop-p
invariant-check_pairs-loop-p l = record {
  scope : l.scope ≡ l.initial.scope;
  rules : all_breaks (writtens (map proc_pair l.ps.items)) l.scope outside ≡ all_breaks (writtens (map proc_pair (drop l.p-index l.ps.items))) l.scope outside;
}

abbrev pub invariant-check_binds-loop-b : goal.invariant-check_binds-loop-b
invariant-check_binds-loop-b l = record {
  scope : l.scope ≡ l.initial.scope;
  rules : all_breaks (writtens (map bind_written l.binds.items)) l.scope (after l.initial.bound false) ≡ all_breaks (writtens (map bind_written (drop l.b-index l.binds.items))) l.scope (after l.bound false);
  bound : inside (all_variables (writtens (map bind_written (drop l.b-index l.binds.items)))) l.bound ≡ inside (all_variables (writtens (map bind_written l.binds.items))) l.initial.bound;
}

abbrev pub invariant-check_cases-loop-case : goal.invariant-check_cases-loop-case
invariant-check_cases-loop-case l = record {
  scope : l.scope ≡ l.initial.scope;
  rules : all_breaks (writtens (map case_written l.cases.items)) l.scope outside ≡ all_breaks (writtens (map case_written (drop l.case-index l.cases.items))) l.scope outside;
}

abbrev pub invariant-check_patterns-loop-p : goal.invariant-check_patterns-loop-p
invariant-check_patterns-loop-p l = record {
  scope : l.scope ≡ l.initial.scope;
  rules : all_breaks (writtens (map pat_written l.ps.items)) l.scope (after l.initial.bound l.negated) ≡ all_breaks (writtens (map pat_written (drop l.p-index l.ps.items))) l.scope (after l.bound l.negated);
  bound : inside (all_variables (writtens (map pat_written (drop l.p-index l.ps.items)))) l.bound ≡ inside (all_variables (writtens (map pat_written l.ps.items))) l.initial.bound;
}

abbrev pub invariant-check_pattern_pairs-loop-p : goal.invariant-check_pattern_pairs-loop-p
invariant-check_pattern_pairs-loop-p l = record {
  scope : l.scope ≡ l.initial.scope;
  rules : all_breaks (writtens (map pat_pair l.ps.items)) l.scope (after l.initial.bound l.negated) ≡ all_breaks (writtens (map pat_pair (drop l.p-index l.ps.items))) l.scope (after l.bound l.negated);
  bound : inside (all_variables (writtens (map pat_pair (drop l.p-index l.ps.items)))) l.bound ≡ inside (all_variables (writtens (map pat_pair l.ps.items))) l.initial.bound;
}

abbrev pub invariant-check_name_patterns-loop-p : goal.invariant-check_name_patterns-loop-p
invariant-check_name_patterns-loop-p l = record {
  scope : l.scope ≡ l.initial.scope;
  rules : all_breaks (writtens (map name_pat_written l.ps.items)) l.scope (after l.initial.bound l.negated) ≡ all_breaks (writtens (map name_pat_written (drop l.p-index l.ps.items))) l.scope (after l.bound l.negated);
  bound : inside (all_variables (writtens (map name_pat_written (drop l.p-index l.ps.items)))) l.bound ≡ inside (all_variables (writtens (map name_pat_written l.ps.items))) l.initial.bound;
}
