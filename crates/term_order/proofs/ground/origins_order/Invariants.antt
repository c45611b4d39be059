use Rattle.std.proofs.Common.{◌≡◌, map, drop}
use Rattle.calculus.specs.Kinds.{origin_number}
use Rattle.calculus.specs.Order.{byte_cmp}
use Rattle.term_order.proofs.ground.origins_order.Given as goal

abbrev pub invariant-loop-i : goal.invariant-loop-i
invariant-loop-i l = byte_cmp (map origin_number l.xs) (map origin_number l.ys) ≡ byte_cmp (map origin_number (drop l.i l.xs)) (map origin_number (drop l.i l.ys))
