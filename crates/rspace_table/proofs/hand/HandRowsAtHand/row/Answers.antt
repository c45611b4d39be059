use Rattle.std.proofs.Common.{sym, ◌∙◌, ap, refl}
use Rattle.std.specs.Option.{option_copied}
use Rattle.rspace_table.specs.Hands.{all_sends, receives_of}
use Rattle.rspace_table.proofs.Firsts.{joined-row}
use Rattle.rspace_table.proofs.hand.HandRowsAtHand.row.Goals as goal

pub returns-in-Some : goal.returns-in-Some
returns-in-Some c =
    let h = c.args.self.now in
    sym (joined-row c.args.id.now.0 (receives_of h.heard.now) (all_sends h.held.now) _ _ (sym c.receive_with.ensures ∙ ap option_copied c.in-Some.is) refl)

pub returns-in-None : goal.returns-in-None
returns-in-None c =
    let h = c.args.self.now in
    c.send.ensures ∙ sym (joined-row c.args.id.now.0 (receives_of h.heard.now) (all_sends h.held.now) _ _ (sym c.receive_with.ensures ∙ ap option_copied c.in-None.is) refl)
