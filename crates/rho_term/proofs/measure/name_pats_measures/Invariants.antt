use Rattle.calculus.specs.Form.{name_pat}
use Rattle.rho_term.proofs.Measuring.{HasMeasures}
use Rattle.rho_term.proofs.measure.name_pats_measures.Given as goal

abbrev pub invariant-loop-pat : goal.invariant-loop-pat
invariant-loop-pat l = HasMeasures name_pat (λ t. t) l.pats.items l.pat-index l.total
