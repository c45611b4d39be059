use Rattle.std.proofs.Common.{◌≡◌}
use Rattle.code_order.proofs.compared.wrapped.Given as goal

abbrev pub invariant-loop-item : goal.invariant-loop-item
invariant-loop-item g l = l.suited.items ≡ l.yielded
