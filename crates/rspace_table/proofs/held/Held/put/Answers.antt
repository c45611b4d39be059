use Rattle.std.proofs.Common.{◌∙◌, ap, subst, arith}
use Rattle.shard_tables.specs.Hands.{AreMade, GainsRow}
use Rattle.rspace_table.specs.Hands.{InHand, shard_at}
use Rattle.rspace_table.proofs.Changes.{all-gain, on-err, on-ok}
use Rattle.rspace_table.proofs.held.Held.put.Goals as goal

pub returns-clause-put : goal.returns-clause-put
returns-clause-put c =
    let o = c.args.op.now in
    let new = c.put_from.new.shards.items in
    on-ok c.put_from.result
    (λ made. subst (λ (l : InHand). AreMade (λ rows. rows) (GainsRow o) (shard_at l) (shard_at new)) c.self.view_is (all-gain o c.self.inside.shards.items new (λ k. made k (omega arith)))) c.put_from.ensures.made

pub returns-clause-back : goal.returns-clause-back
returns-clause-back c = on-err c.put_from.result (λ back k. back k ∙ ap (λ (l : InHand). shard_at l k) c.self.view_is) c.put_from.ensures.back
