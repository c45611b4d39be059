use Rattle.std.proofs.Common.{List, map as each, sym, subst}
use Rattle.calculus.specs.Form.{a_bind}
use Rattle.rho_term.specs.Parts.{bind_tree}
use Rattle.rho_term.specs.declared.term.TermBind.{TermBind}
use Rattle.match_targets.specs.Targets.{AllReady}
use Rattle.tables.proofs.Handing.{binds-ready, ready_as}
use Rattle.tables.proofs.matches.match_receive.Goals as goal

pub match_first_bind-requires-clause-binds : goal.match_first_bind-requires-clause-binds
match_first_bind-requires-clause-binds c =
    subst (λ (bs : List TermBind). AllReady a_bind (each bind_tree bs)) (sym c.deref.ensures.value)
    (binds-ready c.in-Receive.kind c.in-Receive.binds c.in-Receive.body (ready_as _ _ c.in-Receive.is c.requires.receive))
