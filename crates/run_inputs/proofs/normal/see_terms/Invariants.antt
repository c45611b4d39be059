use Rattle.rho_term.proofs.Measuring.{HasNormal}
use Rattle.run_inputs.proofs.normal.see_terms.Given as goal

abbrev pub invariant-loop-term : goal.invariant-loop-term
invariant-loop-term l = HasNormal (λ t. t) l.terms.items l.term-index
