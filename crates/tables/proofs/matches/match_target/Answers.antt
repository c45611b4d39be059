use Rattle.std.proofs.Common.{List, map as each, sym, subst}
use Rattle.calculus.specs.Form.{a_case}
use Rattle.rho_term.specs.Parts.{case_tree}
use Rattle.rho_term.specs.declared.term.TermCase.{TermCase}
use Rattle.match_targets.specs.Targets.{AllReady}
use Rattle.tables.proofs.Handing.{cases-ready, target-ready, ready_as}
use Rattle.tables.proofs.matches.match_target.Goals as goal

pub match_first_case-requires-clause-cases : goal.match_first_case-requires-clause-cases
match_first_case-requires-clause-cases c =
    subst (λ (cs : List TermCase). AllReady a_case (each case_tree cs)) (sym c.deref.ensures.value)
    (cases-ready c.in-Match.target c.in-Match.cases (ready_as _ _ c.in-Match.is c.requires))

pub match_first_case-requires-clause-target : goal.match_first_case-requires-clause-target
match_first_case-requires-clause-target c = target-ready c.in-Match.target c.in-Match.cases (ready_as _ _ c.in-Match.is c.requires)
