use Rattle.std.proofs.Common.{◌≡◌, map}
use Rattle.rho_term.specs.Parts.{part_tree, pat_part_tree}
use Rattle.code_order.specs.Made.{reordered}
use Rattle.normal_parts.proofs.parts.closed_parts.Given as goal

abbrev pub invariant-loop-part : goal.invariant-loop-part
invariant-loop-part l = map pat_part_tree l.closed.items ≡ map (λ p. reordered (part_tree p)) l.yielded
