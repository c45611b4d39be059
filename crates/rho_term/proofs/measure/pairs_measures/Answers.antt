use Rattle.calculus.specs.Form.{pair_of, term}
use Rattle.rho_term.specs.Parts.{pair_tree}
use Rattle.rho_term.proofs.Measuring.{row-start, row-step, row-end}
use Rattle.rho_term.proofs.Forms.{pair-measured}
use Rattle.rho_term.proofs.measure.pairs_measures.Goals as goal

pub loop-pair-init : goal.loop-pair-init
loop-pair-init c = row-start (pair_of term) pair_tree _ _ c.leaf-total.ensures

pub loop-pair-preserved : goal.loop-pair-preserved
loop-pair-preserved c =
    row-step (pair_of term) pair_tree _ _ _ _ _ _ _ c.deref-pair-items.ensures.value c.loop-pair-test.true c.pair-item.is (pair-measured term _ _ _ _ c.measures.ensures c.measures-in-loop-pair.ensures c.join-both.ensures) c.join-total.ensures c.loop-pair.invariant

pub returns : goal.returns
returns c =
    row-end (pair_of term) pair_tree _ _ _ _ c.deref-pair-items.ensures.value c.loop-pair-test.false c.loop-pair.invariant
