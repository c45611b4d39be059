use Rattle.std.proofs.Common.{sym, ◌∙◌, ap, subst}
use Rattle.std.specs.Prelude.{OnOk}
use Rattle.calculus.specs.Rows.{Row}
use Rattle.events.specs.Shards.{stands_in}
use Rattle.shard_tables.specs.Hands.{GainsRow}
use Rattle.rspace_table.proofs.Changes.{gains-not, put-gains}
use Rattle.rspace_table.proofs.places.gain.Goals as goal

pub put-requires : goal.put-requires
put-requires c =
    ap (stands_in c.args.number) c.in_ok-row.ensures ∙ (sym (c.requires.bits c.args.number c.requires.low) ∙ sym c.has_bit.ensures ∙ c.if-has_bit.true)

pub returns-in_ok-row-clause-made : goal.returns-in_ok-row-clause-made
returns-in_ok-row-clause-made c =
    let stands = ap (stands_in c.args.number) c.in_ok-row.ensures ∙ (sym (c.requires.bits c.args.number c.requires.low) ∙ sym c.has_bit.ensures ∙ c.if-has_bit.true) in
    subst (λ (o : Row). OnOk c.put.result (GainsRow o c.args.number c.args.shard.now c.put.new.self)) c.in_ok-row.ensures
    (put-gains c.in_ok-row.row c.args.number c.args.shard.now c.put.new.self c.put.result stands c.put.ensures.there c.put.ensures.added)

pub returns-else-has_bit-clause-made : goal.returns-else-has_bit-clause-made
returns-else-has_bit-clause-made c = gains-not c.args.op.now c.args.number c.args.shard.now (sym (c.requires.bits c.args.number c.requires.low) ∙ sym c.has_bit.ensures ∙ c.if-has_bit.false)
