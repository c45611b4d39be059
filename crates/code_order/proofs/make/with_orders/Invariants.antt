use Rattle.std.proofs.Common.{◌≡◌, map}
use Rattle.rho_term.specs.Parts.{part_tree}
use Rattle.code_order.specs.Made.{reordered}
use Rattle.code_order.proofs.make.with_orders.Given as goal

abbrev pub invariant-loop-part : goal.invariant-loop-part
invariant-loop-part l = map part_tree l.ordered.items ≡ map (λ p. reordered (part_tree p)) l.yielded
