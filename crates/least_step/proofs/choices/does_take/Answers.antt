use Rattle.std.proofs.Common.{sym, ap, ◌∙◌, subst}
use Rattle.std.specs.Prelude.{is_some}
use Rattle.calculus.specs.Form.{term}
use Rattle.match_targets.specs.Targets.{AllReady}
use Rattle.row_search.proofs.Known.{as-row, send-args, send-channel}
use Rattle.row_search.proofs.Taking.{other-channel}
use Rattle.match_targets.proofs.Alike.{same_codes}
use Rattle.least_step.proofs.Taking.{matched}
use Rattle.row_search.proofs.Known.{bind-channel}
use Rattle.least_step.proofs.choices.does_take.Goals as goal

pub returns-then-not-is_eq : goal.returns-then-not-is_eq
returns-then-not-is_eq c =
    let p = c.in-Produce in
    let e = as-row c.args.row.now _ _ c.op.ensures.is p.is in
    let b = c.args.bind.now in
    let same = c.is_eq.ensures ∙ same_codes b.channel p.channel c.cmp_terms.result (bind-channel b c.requires) (send-channel c.args.row.now p.id p.channel p.args p.persistent e c.op.ensures.storable) c.cmp_terms.ensures in
    sym (ap is_some (other-channel b c.args.row.now p.id p.channel p.args p.persistent e (sym same ∙ c.if-not-is_eq.true)))

pub match_bind-requires-clause-args : goal.match_bind-requires-clause-args
match_bind-requires-clause-args c =
    let p = c.in-Produce in
    let e = as-row c.args.row.now _ _ c.op.ensures.is p.is in
    subst (AllReady term) (sym c.deref.ensures.value) (send-args c.args.row.now p.id p.channel p.args p.persistent e c.op.ensures.storable)

pub returns-in_ok-match_bind-in-Produce : goal.returns-in_ok-match_bind-in-Produce
returns-in_ok-match_bind-in-Produce c =
    let p = c.in-Produce in
    let e = as-row c.args.row.now _ _ c.op.ensures.is p.is in
    let b = c.args.bind.now in
    let same = c.is_eq.ensures ∙ same_codes b.channel p.channel c.cmp_terms.result (bind-channel b c.requires) (send-channel c.args.row.now p.id p.channel p.args p.persistent e c.op.ensures.storable) c.cmp_terms.ensures in
    c.is_some.ensures ∙ matched b c.args.row.now p.id p.channel p.args p.persistent e (sym same ∙ c.if-not-is_eq.false) c.deref.result.now c.deref.ensures.value c.op.ensures.storable
    c.in_ok-match_bind-in-Produce.field-0 c.in_ok-match_bind-in-Produce.ensures
