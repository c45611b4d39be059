use Rattle.std.proofs.Common.{map, sym, ◌∙◌, ap}
use Rattle.std.proofs.lemmas.Result.{IfOk-weaker}
use Rattle.calculus.specs.Code.{code}
use Rattle.calculus.specs.Rows.{Row, channels}
use Rattle.rho_term.specs.declared.term.TermBind.{TermBind}
use Rattle.row_search.proofs.Known.{as-row}
use Rattle.space_row.proofs.Codes.{channels-receive}
use Rattle.row_table.proofs.Changing.{each-each}
use Rattle.row_table.proofs.keys.row_keys.Goals as goal

pub returns-in-Consume : goal.returns-in-Consume
returns-in-Consume c =
    let p = c.in-Consume in
    let e = as-row c.args.row.now _ _ c.op.ensures.is p.is in
    IfOk-weaker c.bind_keys.result _ _
    (λ keys h. h ∙ sym (ap (λ (r : Row). map code (channels r.part)) e ∙ ap (map code) (channels-receive p.id p.kind p.binds p.body) ∙ each-each code (λ (b : TermBind). b.channel) p.binds.items)) c.bind_keys.ensures
