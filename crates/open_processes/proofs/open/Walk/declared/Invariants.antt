use Rattle.std.proofs.Common.{◌≡◌, map, drop, [], false}
use Rattle.calculus.specs.Meaning.{declared}
use Rattle.scope.specs.Binding.{inside, declared_variables}
use Rattle.open_processes.proofs.open.Walk.declared.Given as goal

abbrev pub invariant-loop-decl : goal.invariant-loop-decl
invariant-loop-decl l = l.self.failed ≡ false → (l.fn.self.failed ≡ false) × (l.self.used ≡ l.fn.self.used) × (inside (declared_variables (map declared (drop l.decl-index l.names.items))) l.bound ≡ inside (declared_variables (map declared l.names.items)) [])
