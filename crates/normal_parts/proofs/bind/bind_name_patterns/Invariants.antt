use Rattle.std.proofs.Common.{◌≡◌, map, drop}
use Rattle.calculus.specs.Written.{writtens}
use Rattle.calculus.specs.Bare.{all_names}
use Rattle.calculus.specs.Meaning.{name_pat_written}
use Rattle.normal_parts.specs.InScope.{within}
use Rattle.normal_parts.proofs.bind.bind_name_patterns.Given as goal

abbrev pub invariant-loop-p : goal.invariant-loop-p
invariant-loop-p l = within (all_names (writtens (map name_pat_written (drop l.p-index l.ps.items)))) l.bound ≡ within (all_names (writtens (map name_pat_written l.ps.items))) l.initial.bound
