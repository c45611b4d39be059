use Rattle.std.proofs.Common.{◌≡◌, map}
use Rattle.code_order.proofs.keyed.without_keys.Given as goal

abbrev pub invariant-loop-code : goal.invariant-loop-code
invariant-loop-code g l = l.items.items ≡ map (λ p. p.1) l.yielded
