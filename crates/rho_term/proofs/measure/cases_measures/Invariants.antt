use Rattle.calculus.specs.Form.{a_case}
use Rattle.rho_term.specs.Parts.{case_tree}
use Rattle.rho_term.proofs.Measuring.{HasMeasures}
use Rattle.rho_term.proofs.measure.cases_measures.Given as goal

abbrev pub invariant-loop-case : goal.invariant-loop-case
invariant-loop-case l = HasMeasures a_case case_tree l.cases.items l.case-index l.total
