use Rattle.std.proofs.Common.{◌≡◌, ◌++◌, map, drop, []}
use Rattle.calculus.specs.Meaning.{declared}
use Rattle.calculus.specs.Bare.{declared_origin}
use Rattle.scope.specs.Binding.{inside, declared_variables}
use Rattle.scope.specs.Rules.{declarations}
use Rattle.input_faults.proofs.declared.declarations.Given as goal

abbrev pub invariant-loop-decl : goal.invariant-loop-decl
invariant-loop-decl l = record {
  rules : declarations (map declared l.names.items) [] ≡ declarations (map declared (drop l.decl-index l.names.items)) l.bound;
  bound : inside (declared_variables (map declared (drop l.decl-index l.names.items))) l.bound ≡ inside (declared_variables (map declared l.names.items)) [];
  origins : l.origins.items ++ map (λ d. declared_origin d.1) (map declared (drop l.decl-index l.names.items)) ≡ map (λ d. declared_origin d.1) (map declared l.names.items);
}
