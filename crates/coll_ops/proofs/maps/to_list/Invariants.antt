use Rattle.std.proofs.Common.{◌≡◌, ◌++◌, false, drop, map}
use Rattle.calculus.specs.Methods.{as_tuple}
use Rattle.rho_term.specs.Parts.{pair_tree}
use Rattle.coll_ops.proofs.maps.to_list.Given as goal

abbrev pub invariant-loop-pair : goal.invariant-loop-pair
invariant-loop-pair l = l.maker.failed ≡ false → l.tuples.items ++ map (λ p. as_tuple (pair_tree p)) (drop l.pair-index l.pairs) ≡ map (λ p. as_tuple (pair_tree p)) l.pairs
