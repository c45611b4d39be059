use Rattle.coll_ops.proofs.Steps.{copied-step, copied-end}
use Rattle.coll_ops.proofs.maker.Maker.add_copies.Goals as goal

pub loop-term-preserved : goal.loop-term-preserved
loop-term-preserved c = λ h.
    let k = c.add.ensures h in
    let m = c.copy-copy.ensures k.0 in
    let n = c.loop-term.invariant m.0 in
    (n.0, copied-step _ _ _ _ _ _ _ c.loop-term-test.true c.term-item.is m.1 k.1 n.1)

pub returns : goal.returns
returns c = λ h.
    let n = c.loop-term.invariant h in
    (n.0, copied-end _ _ _ _ c.loop-term-test.false n.1)
