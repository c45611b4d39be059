use Rattle.calculus.specs.Form.{term}
use Rattle.rho_term.proofs.Measuring.{HasMeasures}
use Rattle.rho_term.proofs.measure.terms_measures.Given as goal

abbrev pub invariant-loop-term : goal.invariant-loop-term
invariant-loop-term l = HasMeasures term (λ t. t) l.terms.items l.term-index l.total
