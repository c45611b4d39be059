use Rattle.std.proofs.Common.{map as each, eqb, sym, ◌∙◌, ap}
use Rattle.std.specs.List.{list_any}
use Rattle.std.proofs.lemmas.Result.{IfOk-weaker}
use Rattle.calculus.specs.Rows.{channels}
use Rattle.calculus.specs.Storing.{shard}
use Rattle.rho_term.specs.Rows.{row_of_op}
use Rattle.space_row.proofs.Codes.{channels-receive}
use Rattle.replay_rows.proofs.Shifting.{shards-each}
use Rattle.replay_rows.proofs.bits.row_shards.Goals as goal

pub returns-in-Consume : goal.returns-in-Consume
returns-in-Consume c =
    let p = c.in-Consume in
    let is = sym c.op.ensures.is ∙ ap row_of_op p.is in
    IfOk-weaker c.bind_shards.result _ _
    (λ n h k. h k ∙ ap (list_any (eqb k)) (shards-each p.binds.items) ∙ ap (λ l. list_any (eqb k) (each shard l)) (sym (channels-receive p.id p.kind p.binds p.body) ∙ sym (ap (λ r. channels r.part) is))) c.bind_shards.ensures
