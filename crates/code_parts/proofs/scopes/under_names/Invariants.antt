use Rattle.std.proofs.Common.{◌≡◌, ◌++◌, replicate}
use Rattle.code_faults.specs.declared.sort.Sense.TheVariants.{Name}
use Rattle.code_parts.proofs.scopes.under_names.Given as goal

abbrev pub invariant-loop-i : goal.invariant-loop-i
invariant-loop-i l = l.inner.items ≡ l.scope.items ++ replicate l._i Name
