use Rattle.events.proofs.shard_laws.held_shards_tell_entries.Goals as goal
use Rattle.events.proofs.Telling.{held_shards_tell_entries}

pub returns : goal.returns
returns c = record { law = held_shards_tell_entries }
