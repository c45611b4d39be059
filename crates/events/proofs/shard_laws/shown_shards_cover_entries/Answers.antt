use Rattle.events.proofs.shard_laws.shown_shards_cover_entries.Goals as goal
use Rattle.events.proofs.Covering.{shown_shards_cover_entries}

pub returns : goal.returns
returns c = record { law = shown_shards_cover_entries }
