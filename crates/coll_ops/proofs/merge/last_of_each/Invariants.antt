use Rattle.std.proofs.Common.{◌≡◌, [], false, All}
use Rattle.calculus.specs.Code.{code}
use Rattle.value_ops.specs.Answers.{IsOperand}
use Rattle.coll_ops.specs.Merging.{put_all}
use Rattle.coll_ops.proofs.merge.last_of_each.Given as goal

abbrev pub invariant-loop-item : goal.invariant-loop-item
invariant-loop-item g l = l.maker.failed ≡ false → (l.initial.maker.failed ≡ false) × (All (λ x. IsOperand (g.T.Keyed.key_tree x)) l.fn.items.items
    → (put_all (λ x. code (g.T.Keyed.key_tree x)) l.kept.items l.item-iterator.rest.items ≡ put_all (λ x. code (g.T.Keyed.key_tree x)) [] l.fn.items.items)
    × All (λ x. IsOperand (g.T.Keyed.key_tree x)) l.kept.items
    × All (λ x. IsOperand (g.T.Keyed.key_tree x)) l.item-iterator.rest.items)
