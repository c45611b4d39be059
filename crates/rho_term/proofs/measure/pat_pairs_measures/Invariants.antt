use Rattle.calculus.specs.Form.{pair_of, pat}
use Rattle.rho_term.specs.Parts.{pair_tree}
use Rattle.rho_term.proofs.Measuring.{HasMeasures}
use Rattle.rho_term.proofs.measure.pat_pairs_measures.Given as goal

abbrev pub invariant-loop-pair : goal.invariant-loop-pair
invariant-loop-pair l = HasMeasures (pair_of pat) pair_tree l.pairs.items l.pair-index l.total
