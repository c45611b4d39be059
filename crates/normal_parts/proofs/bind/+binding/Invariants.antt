use Rattle.std.proofs.Common.{◌≡◌, map, drop}
use Rattle.calculus.specs.Written.{writtens}
use Rattle.calculus.specs.Bare.{all_names}
use Rattle.calculus.specs.Meaning.{pat_written}
use Rattle.open_processes.specs.Pairs.{pat_pair}
use Rattle.normal_parts.specs.InScope.{within}
use Rattle.normal_parts.proofs.bind.+binding.Given as goal

abbrev pub invariant-bind_patterns-loop-p : goal.invariant-bind_patterns-loop-p
invariant-bind_patterns-loop-p l = within (all_names (writtens (map pat_written (drop l.p-index l.ps.items)))) l.bound ≡ within (all_names (writtens (map pat_written l.ps.items))) l.initial.bound

abbrev pub invariant-bind_pattern_pairs-loop-p : goal.invariant-bind_pattern_pairs-loop-p
invariant-bind_pattern_pairs-loop-p l = within (all_names (writtens (map pat_pair (drop l.p-index l.ps.items)))) l.bound ≡ within (all_names (writtens (map pat_pair l.ps.items))) l.initial.bound
