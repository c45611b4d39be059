use Rattle.events.proofs.shard_laws.congruent_channels_share_a_shard.Goals as goal
use Rattle.events.proofs.Alike.{congruent_channels_share_a_shard}

pub returns : goal.returns
returns c = record { law = congruent_channels_share_a_shard }
