use Rattle.std.proofs.Common.{◌≡◌}
use Rattle.code_order.proofs.compared.unwrapped.Given as goal

abbrev pub invariant-loop-thing : goal.invariant-loop-thing
invariant-loop-thing g l = l.items.items ≡ l.yielded
