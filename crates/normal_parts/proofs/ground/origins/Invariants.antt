use Rattle.std.proofs.Common.{◌≡◌, ◌++◌, map, drop}
use Rattle.calculus.specs.Meaning.{declared}
use Rattle.calculus.specs.Bare.{declared_origin}
use Rattle.normal_parts.proofs.ground.origins.Given as goal

abbrev pub invariant-loop-decl : goal.invariant-loop-decl
invariant-loop-decl l = l.origins.items ++ map (λ d. declared_origin d.1) (map declared (drop l.decl-index l.names.items)) ≡ map (λ d. declared_origin d.1) (map declared l.names.items)
