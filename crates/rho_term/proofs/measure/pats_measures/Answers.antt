use Rattle.calculus.specs.Form.{pat}
use Rattle.rho_term.proofs.Measuring.{row-start, row-step, trees-end}
use Rattle.rho_term.proofs.measure.pats_measures.Goals as goal

pub loop-pat-init : goal.loop-pat-init
loop-pat-init c = row-start pat (λ t. t) _ _ c.leaf-total.ensures

pub loop-pat-preserved : goal.loop-pat-preserved
loop-pat-preserved c =
    row-step pat (λ t. t) _ _ _ _ _ _ _ c.deref-pat-items.ensures.value c.loop-pat-test.true c.pat-item.is c.measures.ensures c.join-total.ensures c.loop-pat.invariant

pub returns : goal.returns
returns c =
    trees-end pat _ _ _ _ c.deref-pat-items.ensures.value c.loop-pat-test.false c.loop-pat.invariant
