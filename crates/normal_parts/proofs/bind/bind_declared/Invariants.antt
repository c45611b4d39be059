use Rattle.std.proofs.Common.{◌≡◌, map, drop}
use Rattle.calculus.specs.Meaning.{declared}
use Rattle.normal_parts.specs.InScope.{within}
use Rattle.normal_parts.proofs.bind.bind_declared.Given as goal

abbrev pub invariant-loop-decl : goal.invariant-loop-decl
invariant-loop-decl l = within (map (λ d. d.0) (map declared (drop l.decl-index l.names.items))) l.bound ≡ within (map (λ d. d.0) (map declared l.names.items)) l.initial.bound
