use Rattle.std.proofs.Common.{◌*◌, ◌^◌, ◌%◌, ◌||◌, false, eqb, List, sym, ◌∙◌, ap, subst}
use Rattle.std.specs.List.{list_any}
use Rattle.std.proofs.lemmas.Result.{IfOk-weaker}
use Rattle.calculus.specs.Storing.{shard}
use Rattle.calculus.specs.Rows.{Row, channels}
use Rattle.rho_term.specs.declared.term.TermBind.{TermBind}
use Rattle.row_shards.proofs.Standing.{as-row}
use Rattle.space_row.proofs.Codes.{channels-receive}
use Rattle.events.specs.Shards.{stands_in}
use Rattle.shard_counts.specs.Bits.{AreBits}
use Rattle.row_shards.proofs.SetBits.{or-none, same-bits, shifted-bit}
use Rattle.row_shards.proofs.Standing.{binds-stand}
use Rattle.row_shards.proofs.bits.row_bits.Goals as goal

pub returns-in_ok-shard_of-in-Produce : goal.returns-in_ok-shard_of-in-Produce
returns-in_ok-shard_of-in-Produce c =
    let p = c.in-Produce in
    let s = c.in_ok-shard_of-in-Produce in
    let n = 1 * 2 ^ s.field-0 % 2 ^ 64 in
    let e = as-row c.args.row.now _ _ c.op.ensures.is p.is in
    subst (λ (r : Row). AreBits (λ k. stands_in k r) n) (sym e)
    (same-bits (λ k. eqb k (shard p.channel)) (λ k. eqb k (shard p.channel) || false) n (λ k. sym (or-none (eqb k (shard p.channel)))) (shifted-bit p.channel s.field-0 s.ensures))

pub returns-in-Consume : goal.returns-in-Consume
returns-in-Consume c =
    let p = c.in-Consume in
    let e = as-row c.args.row.now _ _ c.op.ensures.is p.is in
    IfOk-weaker c.bind_bits.result _ _
    (λ n h. same-bits _ _ n (binds-stand c.args.row.now p.binds.items (ap (λ (r : Row). channels r.part) e ∙ channels-receive p.id p.kind p.binds p.body))
    (subst (λ (bs : List TermBind). AreBits (λ k. list_any (λ (b : TermBind). eqb k (shard b.channel)) bs) n) c.deref.ensures.value h)) c.bind_bits.ensures
