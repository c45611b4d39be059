use Rattle.std.proofs.Common.{[], sym, subst, arith}
use Rattle.calculus.specs.Form.{IsClosed}
use Rattle.calculus.specs.Shape.{only}
use Rattle.rho_eval.proofs.Parts.{parts-closed}
use Rattle.rho_term.specs.declared.term.Part.{Part}
use Rattle.rho_term.specs.Parts.{part_tree}
use Rattle.tables.proofs.offers.receive_offers.Goals as goal

pub part_offers-requires-clause-receive : goal.part_offers-requires-clause-receive
part_offers-requires-clause-receive c =
    let ps = c.parts-parts.result.now in
    let h = subst IsClosed c.parts-parts.ensures.parts c.requires.receive in
    subst (λ (q : Part). IsClosed (only (part_tree q))) (sym c.index-parts-0.is) (parts-closed [] ps h.1 0 c.index-parts-0.result (omega arith))
