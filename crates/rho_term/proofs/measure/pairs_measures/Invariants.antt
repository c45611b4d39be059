use Rattle.calculus.specs.Form.{pair_of, term}
use Rattle.rho_term.specs.Parts.{pair_tree}
use Rattle.rho_term.proofs.Measuring.{HasMeasures}
use Rattle.rho_term.proofs.measure.pairs_measures.Given as goal

abbrev pub invariant-loop-pair : goal.invariant-loop-pair
invariant-loop-pair l = HasMeasures (pair_of term) pair_tree l.pairs.items l.pair-index l.total
