use Rattle.std.proofs.Common.{◌≡◌, sym, subst}
use Rattle.std.specs.Prelude.{IfOk}
use Rattle.offered_rows.proofs.Kept.{numbered-same}
use Rattle.offered_rows.proofs.receive.renumbered.Goals as goal

pub returns-then-are_in_order : goal.returns-then-are_in_order
returns-then-are_in_order c =
    let h = c.requires in
    subst (λ u. IfOk c.copy.result (λ t. t ≡ u)) (sym (numbered-same h.0 c.args.places.now c.args.body.now (c.are_in_order.ensures c.if-are_in_order.true) h.1 h.2 c.height-height.ensures.normal)) c.copy.ensures
