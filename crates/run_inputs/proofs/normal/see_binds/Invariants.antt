use Rattle.rho_term.specs.Parts.{bind_tree}
use Rattle.rho_term.proofs.Measuring.{HasNormal}
use Rattle.run_inputs.proofs.normal.see_binds.Given as goal

abbrev pub invariant-loop-bind : goal.invariant-loop-bind
invariant-loop-bind l = HasNormal bind_tree l.binds.items l.bind-index
