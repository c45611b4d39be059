use Rattle.std.proofs.Common.{List, eqb, map, sym, ◌∙◌, ap, subst}
use Rattle.std.specs.List.{list_any}
use Rattle.std.proofs.lemmas.Result.{IfOk-weaker}
use Rattle.calculus.specs.Tree.{Tree}
use Rattle.calculus.specs.Rows.{Row, channels}
use Rattle.calculus.specs.Storing.{shard}
use Rattle.rho_term.specs.declared.term.TermBind.{TermBind}
use Rattle.row_search.specs.Choices.{AllBindsReady}
use Rattle.row_search.proofs.Known.{as-row, send-channel, binds-ready}
use Rattle.space_row.proofs.Codes.{channels-receive}
use Rattle.row_shards.proofs.SetBits.{or-none}
use Rattle.row_shards.proofs.Standing.{binds-stand}
use Rattle.shard_counts.specs.Bits.{AreBitsBeside}
use Rattle.row_table.specs.Shown.{heard_on}
use Rattle.rspace_table.proofs.Shown.{binds-shown, shown-on}
use Rattle.rspace_table.proofs.bits.shown_bits.Goals as goal

pub shards_on-requires : goal.shards_on-requires
shards_on-requires c =
    let p = c.in-Produce in
    send-channel c.args.op.now p.id p.channel p.args p.persistent (as-row c.args.op.now _ _ c.op.ensures.is p.is) c.op.ensures.storable

pub shown_on_any-requires : goal.shown_on_any-requires
shown_on_any-requires c =
    let p = c.in-Consume in
    subst AllBindsReady (sym c.deref.ensures.value) (binds-ready c.args.op.now p.id p.kind p.binds p.body (as-row c.args.op.now _ _ c.op.ensures.is p.is) c.op.ensures.storable)

pub returns-in-Produce : goal.returns-in-Produce
returns-in-Produce c =
    let rows = c.args.table.now in
    let p = c.in-Produce in
    let o = c.args.op.now in
    let e = ap (λ (r : Row). channels r.part) (as-row o _ _ c.op.ensures.is p.is) in
    IfOk-weaker c.shards_on.result _ _
    (λ n h k lt own. h k lt (sym (or-none (eqb k (shard p.channel))) ∙ sym (ap (λ (cs : List Tree). list_any (eqb k) (map shard cs)) e) ∙ own) ∙ sym (or-none _) ∙ ap (list_any (λ d. heard_on rows d k)) (sym e) ∙ shown-on rows o k) c.shards_on.ensures

pub returns-in-Consume : goal.returns-in-Consume
returns-in-Consume c =
    let rows = c.args.table.now in
    let p = c.in-Consume in
    let o = c.args.op.now in
    let e = ap (λ (r : Row). channels r.part) (as-row o _ _ c.op.ensures.is p.is) ∙ channels-receive p.id p.kind p.binds p.body in
    IfOk-weaker c.shown_on_any.result _ _
    (λ n h k lt own. subst (λ (bs : List TermBind). AreBitsBeside (λ j. list_any (λ (b : TermBind). eqb j (shard b.channel)) bs) (λ j. list_any (λ (b : TermBind). heard_on rows b.channel j) bs) n) c.deref.ensures.value h k lt (binds-stand o p.binds.items e k ∙ own) ∙ binds-shown rows o p.binds.items e k) c.shown_on_any.ensures
