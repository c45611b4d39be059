use Rattle.std.proofs.Common.{◌≡◌, drop, All}
use Rattle.calculus.specs.Code.{code}
use Rattle.value_ops.specs.Answers.{IsOperand}
use Rattle.coll_ops.specs.Merging.{high}
use Rattle.coll_ops.proofs.merge.find_key.Given as goal

abbrev pub invariant-loop-next : goal.invariant-loop-next
invariant-loop-next g l = All (λ x. IsOperand (g.T.Keyed.key_tree x)) l.items → IsOperand l.key
    → high (λ x. code (g.T.Keyed.key_tree x)) (code l.key) (drop l.next l.items) ≡ high (λ x. code (g.T.Keyed.key_tree x)) (code l.key) (drop l.start l.items)
