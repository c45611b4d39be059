use Rattle.calculus.specs.Form.{term}
use Rattle.rho_term.proofs.Measuring.{row-start, row-step, trees-end}
use Rattle.rho_term.proofs.measure.terms_measures.Goals as goal

pub loop-term-init : goal.loop-term-init
loop-term-init c = row-start term (λ t. t) _ _ c.leaf-total.ensures

pub loop-term-preserved : goal.loop-term-preserved
loop-term-preserved c =
    row-step term (λ t. t) _ _ _ _ _ _ _ c.deref-term-items.ensures.value c.loop-term-test.true c.term-item.is c.measures.ensures c.join-total.ensures c.loop-term.invariant

pub returns : goal.returns
returns c =
    trees-end term _ _ _ _ c.deref-term-items.ensures.value c.loop-term-test.false c.loop-term.invariant
