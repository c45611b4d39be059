use Rattle.hub_scenes.proofs.play_laws.shards_have_all_rows.Goals as goal
use Rattle.hub_scenes.proofs.ClosedRows.{shards_have_all_rows}

pub returns : goal.returns
returns c = record { law = shards_have_all_rows }
