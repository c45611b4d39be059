use Rattle.std.proofs.Common.{not, cond, sym, ◌∙◌, ap}
use Rattle.std.specs.Prelude.{Some, None}
use Rattle.std.specs.Option.{option_copied}
use Rattle.rspace_table.specs.Hands.{is_receive}
use Rattle.rspace_table.proofs.Firsts.{kept-row}
use Rattle.rspace_table.proofs.hand.receive_with.Goals as goal

pub returns-in-None : goal.returns-in-None
returns-in-None c = sym (kept-row is_receive c.args.id.now.0 c.args.table.now None (sym c.row.ensures ∙ ap option_copied c.in-None.is))

pub returns-then-is_send : goal.returns-then-is_send
returns-then-is_send c =
    let r = c.in-Some.row.now in
    sym (kept-row is_receive c.args.id.now.0 c.args.table.now (Some r) (sym c.row.ensures ∙ ap option_copied c.in-Some.is)
    ∙ ap (λ b. cond b (Some r) None) (c.is_send.ensures.receive ∙ ap not c.if-is_send.true))

pub returns-else-is_send : goal.returns-else-is_send
returns-else-is_send c =
    let r = c.in-Some.row.now in
    sym (kept-row is_receive c.args.id.now.0 c.args.table.now (Some r) (sym c.row.ensures ∙ ap option_copied c.in-Some.is)
    ∙ ap (λ b. cond b (Some r) None) (c.is_send.ensures.receive ∙ ap not c.if-is_send.false))
