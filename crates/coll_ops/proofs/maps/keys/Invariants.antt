use Rattle.std.proofs.Common.{◌≡◌, [], false, drop, map, All}
use Rattle.calculus.specs.Code.{code}
use Rattle.value_ops.specs.Answers.{IsOperand}
use Rattle.coll_ops.specs.Merging.{put_all}
use Rattle.coll_ops.proofs.maps.keys.Given as goal

abbrev pub invariant-loop-pair : goal.invariant-loop-pair
invariant-loop-pair l = l.maker.failed ≡ false → (put_all code l.kept.items (map (λ p. p.0) (drop l.pair-index l.pairs)) ≡ put_all code [] (map (λ p. p.0) l.pairs)) × All IsOperand l.kept.items
