use Rattle.calculus.specs.Form.{a_bind}
use Rattle.rho_term.specs.Parts.{bind_tree}
use Rattle.rho_term.proofs.Measuring.{row-start, row-step, row-end}
use Rattle.rho_term.proofs.Forms.{bind-measured}
use Rattle.rho_term.proofs.measure.binds_measures.Goals as goal

pub loop-bind-init : goal.loop-bind-init
loop-bind-init c = row-start a_bind bind_tree _ _ c.leaf-total.ensures

pub loop-bind-preserved : goal.loop-bind-preserved
loop-bind-preserved c =
    row-step a_bind bind_tree _ _ _ _ _ _ _ c.deref-bind-items.ensures.value c.loop-bind-test.true c.bind-item.is (bind-measured c.bind-item.result _ _ _ _ _ c.measures.ensures c.leaf.ensures c.name_pats_measures.ensures c.join-pats.ensures c.join-both.ensures) c.join-total.ensures c.loop-bind.invariant

pub returns : goal.returns
returns c =
    row-end a_bind bind_tree _ _ _ _ c.deref-bind-items.ensures.value c.loop-bind-test.false c.loop-bind.invariant
