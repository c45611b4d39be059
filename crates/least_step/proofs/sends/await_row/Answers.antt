use Rattle.std.proofs.Common.{List, All, subst}
use Rattle.rho_term.specs.declared.term.TermBind.{TermBind}
use Rattle.row_search.proofs.Known.{as-row}
use Rattle.least_step.specs.Filed.{HasPlace}
use Rattle.least_step.proofs.Filing.{receive-awaits, send-awaits, when-ok}
use Rattle.least_step.proofs.sends.await_row.Goals as goal

pub returns-in-Produce-clause-awaited : goal.returns-in-Produce-clause-awaited
returns-in-Produce-clause-awaited c =
    let p = c.in-Produce in
    send-awaits c.args.row.now p.id p.channel p.args p.persistent (as-row c.args.row.now _ _ c.op.ensures.is p.is) c.args.sends.now.entries

pub returns-in-Consume-clause-awaited : goal.returns-in-Consume-clause-awaited
returns-in-Consume-clause-awaited c =
    let p = c.in-Consume in
    let es = c.await_binds.new.sends.entries in
    when-ok _ _ c.await_binds.result (λ a.
    receive-awaits c.args.row.now p.id p.kind p.binds p.body (as-row c.args.row.now _ _ c.op.ensures.is p.is) es (subst (λ (bs : List TermBind). All (λ b. HasPlace b.channel es) bs) c.deref.ensures.value a)) c.await_binds.ensures.places
