use Rattle.std.proofs.Common.{◌≡◌, [], false, drop, All}
use Rattle.calculus.specs.Code.{code}
use Rattle.value_ops.specs.Answers.{IsOperand}
use Rattle.coll_ops.specs.Keys.{Ascend}
use Rattle.coll_ops.specs.Merging.{put_all}
use Rattle.coll_ops.proofs.Merging.{merge}
use Rattle.coll_ops.proofs.merge.merged.Given as goal

abbrev pub invariant-loop-item : goal.invariant-loop-item
invariant-loop-item g l = l.maker.failed ≡ false → (l.initial.maker.failed ≡ false) × (Ascend g.T.Keyed.key_tree l.left → Ascend g.T.Keyed.key_tree l.right
    → (put_all (λ x. code (g.T.Keyed.key_tree x)) l.all.items (merge (λ x. code (g.T.Keyed.key_tree x)) (drop l.item-index l.left) (drop l.next l.right)) ≡ put_all (λ x. code (g.T.Keyed.key_tree x)) [] (merge (λ x. code (g.T.Keyed.key_tree x)) l.left l.right))
    × All (λ x. IsOperand (g.T.Keyed.key_tree x)) l.all.items)
