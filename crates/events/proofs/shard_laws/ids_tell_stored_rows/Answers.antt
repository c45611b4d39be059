use Rattle.events.proofs.shard_laws.ids_tell_stored_rows.Goals as goal
use Rattle.events.proofs.Telling.{ids_tell_stored_rows}

pub returns : goal.returns
returns c = record { law = ids_tell_stored_rows }
