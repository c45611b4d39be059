use Rattle.std.proofs.Common.{◌≡◌, ◌++◌}
use Rattle.scope_names.specs.Places.{names_of}
use Rattle.scope_names.proofs.names.Names.enter.Given as goal

abbrev pub invariant-loop-bound : goal.invariant-loop-bound
invariant-loop-bound l = l.self ≡ names_of l.yielded ++ l.initial.self
