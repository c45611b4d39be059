use Rattle.calculus.specs.Form.{a_bind}
use Rattle.rho_term.specs.Parts.{bind_tree}
use Rattle.rho_term.proofs.Measuring.{HasMeasures}
use Rattle.rho_term.proofs.measure.binds_measures.Given as goal

abbrev pub invariant-loop-bind : goal.invariant-loop-bind
invariant-loop-bind l = HasMeasures a_bind bind_tree l.binds.items l.bind-index l.total
