use Rattle.std.proofs.Common.{subst, map}
use Rattle.calculus.specs.declared.ids.Digest.{Digest}
use Rattle.shard_tables.specs.Hands.{AreMade, LosesRows}
use Rattle.rspace_table.specs.Hands.{InHand, shard_at}
use Rattle.rspace_table.proofs.Changes.{all-lose}
use Rattle.rspace_table.proofs.held.Held.take_out.Goals as goal

pub returns : goal.returns
returns c =
    let gone = map (λ (d : Digest). d.0) c.args.gone.now in
    subst (λ (l : InHand). AreMade (λ rows. rows) (LosesRows gone) (shard_at l) (shard_at c.lose_all.new.shards.items)) c.self.view_is
    (all-lose gone c.self.inside.shards.items c.lose_all.new.shards.items c.lose_all.ensures.lost)
