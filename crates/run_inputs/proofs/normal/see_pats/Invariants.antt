use Rattle.rho_term.proofs.Measuring.{HasNormal}
use Rattle.run_inputs.proofs.normal.see_pats.Given as goal

abbrev pub invariant-loop-pat : goal.invariant-loop-pat
invariant-loop-pat l = HasNormal (λ t. t) l.pats.items l.pat-index
