use Rattle.std.proofs.Common.{◌≡◌, ◌||◌, [], map, drop, false}
use Rattle.calculus.specs.Written.{writtens}
use Rattle.calculus.specs.Meaning.{proc_written, pat_written, name_pat_written, bind_written, case_written}
use Rattle.scope.specs.Binding.{all_variables, inside, any_uses_more}
use Rattle.open_processes.specs.Pairs.{proc_pair, pat_pair}
use Rattle.open_processes.proofs.open.+walk.Given as goal

abbrev pub invariant-walk_processes-loop-p : goal.invariant-walk_processes-loop-p
invariant-walk_processes-loop-p l = l.walk.failed ≡ false → (l.fn.walk.failed ≡ false) × (l.scope ≡ l.fn.scope)
    × (l.walk.used || any_uses_more (writtens (map proc_written (drop l.p-index l.ps.items))) l.fn.scope ≡ l.fn.walk.used || any_uses_more (writtens (map proc_written l.ps.items)) l.fn.scope)

abbrev pub invariant-walk_pairs-loop-pair : goal.invariant-walk_pairs-loop-pair
invariant-walk_pairs-loop-pair l = l.walk.failed ≡ false → (l.fn.walk.failed ≡ false) × (l.scope ≡ l.fn.scope)
    × (l.walk.used || any_uses_more (writtens (map proc_pair (drop l.pair-index l.pairs.items))) l.fn.scope ≡ l.fn.walk.used || any_uses_more (writtens (map proc_pair l.pairs.items)) l.fn.scope)

abbrev pub invariant-walk_binds-loop-bind : goal.invariant-walk_binds-loop-bind
invariant-walk_binds-loop-bind l = l.walk.failed ≡ false → (l.fn.walk.failed ≡ false) × (l.scope ≡ l.fn.scope)
    × (l.walk.used || any_uses_more (writtens (map bind_written (drop l.bind-index l.binds.items))) l.fn.scope ≡ l.fn.walk.used || any_uses_more (writtens (map bind_written l.binds.items)) l.fn.scope)
    × (inside (all_variables (writtens (map bind_written (drop l.bind-index l.binds.items)))) l.bound ≡ inside (all_variables (writtens (map bind_written l.binds.items))) [])

abbrev pub invariant-walk_cases-loop-case : goal.invariant-walk_cases-loop-case
invariant-walk_cases-loop-case l = l.walk.failed ≡ false → (l.fn.walk.failed ≡ false) × (l.scope ≡ l.fn.scope)
    × (l.walk.used || any_uses_more (writtens (map case_written (drop l.case-index l.cases.items))) l.fn.scope ≡ l.fn.walk.used || any_uses_more (writtens (map case_written l.cases.items)) l.fn.scope)

abbrev pub invariant-walk_patterns-loop-p : goal.invariant-walk_patterns-loop-p
invariant-walk_patterns-loop-p l = l.walk.failed ≡ false → (l.fn.walk.failed ≡ false) × (l.scope ≡ l.fn.scope)
    × (l.walk.used || any_uses_more (writtens (map pat_written (drop l.p-index l.ps.items))) l.fn.scope ≡ l.fn.walk.used || any_uses_more (writtens (map pat_written l.ps.items)) l.fn.scope)
    × (inside (all_variables (writtens (map pat_written (drop l.p-index l.ps.items)))) l.bound ≡ inside (all_variables (writtens (map pat_written l.ps.items))) l.fn.bound)

abbrev pub invariant-walk_pattern_pairs-loop-pair : goal.invariant-walk_pattern_pairs-loop-pair
invariant-walk_pattern_pairs-loop-pair l = l.walk.failed ≡ false → (l.fn.walk.failed ≡ false) × (l.scope ≡ l.fn.scope)
    × (l.walk.used || any_uses_more (writtens (map pat_pair (drop l.pair-index l.pairs.items))) l.fn.scope ≡ l.fn.walk.used || any_uses_more (writtens (map pat_pair l.pairs.items)) l.fn.scope)
    × (inside (all_variables (writtens (map pat_pair (drop l.pair-index l.pairs.items)))) l.bound ≡ inside (all_variables (writtens (map pat_pair l.pairs.items))) l.fn.bound)

abbrev pub invariant-walk_name_patterns-loop-p : goal.invariant-walk_name_patterns-loop-p
invariant-walk_name_patterns-loop-p l = l.walk.failed ≡ false → (l.fn.walk.failed ≡ false) × (l.scope ≡ l.fn.scope)
    × (l.walk.used || any_uses_more (writtens (map name_pat_written (drop l.p-index l.ps.items))) l.fn.scope ≡ l.fn.walk.used || any_uses_more (writtens (map name_pat_written l.ps.items)) l.fn.scope)
    × (inside (all_variables (writtens (map name_pat_written (drop l.p-index l.ps.items)))) l.bound ≡ inside (all_variables (writtens (map name_pat_written l.ps.items))) l.fn.bound)
