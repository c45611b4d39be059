use Rattle.std.proofs.Common.{List, refl, ◌∙◌, ap, subst, eqb, inl}
use Rattle.std.specs.Prelude.{is_some}
use Rattle.std.specs.List.{list_any}
use Rattle.calculus.specs.Storing.{shard}
use Rattle.calculus.specs.Rows.{Row, channels}
use Rattle.calculus.specs.Steps.{as_receiver}
use Rattle.rho_term.specs.declared.term.TermBind.{TermBind}
use Rattle.space_row.proofs.Codes.{channels-receive}
use Rattle.shard_counts.specs.Bits.{AreBits}
use Rattle.row_shards.proofs.SetBits.{same-bits}
use Rattle.row_shards.proofs.Standing.{as-row, binds-stand, one-channel, two-or-none}
use Rattle.row_shards.proofs.bits.counted_bits.Goals as goal

pub returns-in-Produce : goal.returns-in-Produce
returns-in-Produce c =
    let p = c.in-Produce in
    let e = as-row c.args.row.now _ _ c.op.ensures.is p.is in
    inl (refl, one-channel c.args.row.now p.channel (ap (λ (r : Row). channels r.part) e))

pub returns-in_ok-bind_bits-in-Consume : goal.returns-in_ok-bind_bits-in-Consume
returns-in_ok-bind_bits-in-Consume c =
    let p = c.in-Consume in
    let b = c.in_ok-bind_bits-in-Consume in
    let o = c.args.row.now in
    let e = as-row o _ _ c.op.ensures.is p.is in
    two-or-none o b.field-0 c.two_or_none.result (ap (λ (r : Row). is_some (as_receiver r.part)) e)
    (same-bits _ _ b.field-0 (binds-stand o p.binds.items (ap (λ (r : Row). channels r.part) e ∙ channels-receive p.id p.kind p.binds p.body))
    (subst (λ (bs : List TermBind). AreBits (λ k. list_any (λ (x : TermBind). eqb k (shard x.channel)) bs) b.field-0) c.deref.ensures.value b.ensures)) c.two_or_none.ensures
