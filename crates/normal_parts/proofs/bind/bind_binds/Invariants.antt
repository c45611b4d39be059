use Rattle.std.proofs.Common.{◌≡◌, map, drop}
use Rattle.calculus.specs.Written.{writtens}
use Rattle.calculus.specs.Bare.{all_names}
use Rattle.calculus.specs.Meaning.{bind_written}
use Rattle.normal_parts.specs.InScope.{within}
use Rattle.normal_parts.proofs.bind.bind_binds.Given as goal

abbrev pub invariant-loop-b : goal.invariant-loop-b
invariant-loop-b l = within (all_names (writtens (map bind_written (drop l.b-index l.binds.items)))) l.bound ≡ within (all_names (writtens (map bind_written l.binds.items))) l.initial.bound
