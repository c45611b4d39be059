use Rattle.std.proofs.Common.{◌≡◌, [], false, not, drop, filter, All}
use Rattle.calculus.specs.Code.{code}
use Rattle.value_ops.specs.Answers.{IsOperand}
use Rattle.coll_ops.specs.Keys.{Ascend, has_key}
use Rattle.coll_ops.specs.Merging.{put_all}
use Rattle.coll_ops.proofs.Merging.{Steady}
use Rattle.coll_ops.proofs.merge.without.Given as goal

abbrev pub invariant-loop-item : goal.invariant-loop-item
invariant-loop-item g l = l.maker.failed ≡ false → (l.initial.maker.failed ≡ false) × (Ascend g.T.Keyed.key_tree l.items → Ascend (λ t. t) l.gone
    → (put_all (λ x. code (g.T.Keyed.key_tree x)) l.kept.items (filter (λ x. not (has_key code (code (g.T.Keyed.key_tree x)) l.gone)) (drop l.item-index l.items)) ≡ put_all (λ x. code (g.T.Keyed.key_tree x)) [] (filter (λ x. not (has_key code (code (g.T.Keyed.key_tree x)) l.gone)) l.items))
    × All (λ x. IsOperand (g.T.Keyed.key_tree x)) l.kept.items
    × Steady (λ x. code (g.T.Keyed.key_tree x)) code (drop l.next l.gone) l.gone (drop l.item-index l.items))
