use Rattle.calculus.specs.Form.{a_case}
use Rattle.rho_term.specs.Parts.{case_tree}
use Rattle.rho_term.proofs.Measuring.{row-start, row-step, row-end}
use Rattle.rho_term.proofs.Forms.{case-measured}
use Rattle.rho_term.proofs.measure.cases_measures.Goals as goal

pub loop-case-init : goal.loop-case-init
loop-case-init c = row-start a_case case_tree _ _ c.leaf-total.ensures

pub loop-case-preserved : goal.loop-case-preserved
loop-case-preserved c =
    row-step a_case case_tree _ _ _ _ _ _ _ c.deref-case-items.ensures.value c.loop-case-test.true c.case-item.is (case-measured c.case-item.result _ _ _ c.measures.ensures c.measures-in-loop-case.ensures c.join-both.ensures) c.join-total.ensures c.loop-case.invariant

pub returns : goal.returns
returns c =
    row-end a_case case_tree _ _ _ _ c.deref-case-items.ensures.value c.loop-case-test.false c.loop-case.invariant
