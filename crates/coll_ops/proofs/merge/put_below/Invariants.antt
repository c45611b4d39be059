use Rattle.std.proofs.Common.{◌≡◌, false, drop, All}
use Rattle.calculus.specs.Code.{code}
use Rattle.value_ops.specs.Answers.{IsOperand}
use Rattle.coll_ops.specs.Merging.{low, high, put_all}
use Rattle.coll_ops.proofs.merge.put_below.Given as goal

abbrev pub invariant-loop-next : goal.invariant-loop-next
invariant-loop-next g l = l.maker.failed ≡ false → (l.initial.maker.failed ≡ false)
    × (All (λ x. IsOperand (g.T.Keyed.key_tree x)) l.initial.all.items → All (λ x. IsOperand (g.T.Keyed.key_tree x)) l.items → IsOperand l.key
    → (put_all (λ x. code (g.T.Keyed.key_tree x)) l.all.items (low (λ x. code (g.T.Keyed.key_tree x)) (code l.key) (drop l.next l.items)) ≡ put_all (λ x. code (g.T.Keyed.key_tree x)) l.initial.all.items (low (λ x. code (g.T.Keyed.key_tree x)) (code l.key) (drop l.start l.items)))
    × (high (λ x. code (g.T.Keyed.key_tree x)) (code l.key) (drop l.next l.items) ≡ high (λ x. code (g.T.Keyed.key_tree x)) (code l.key) (drop l.start l.items))
    × All (λ x. IsOperand (g.T.Keyed.key_tree x)) l.all.items)
