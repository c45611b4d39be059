use Rattle.hub_scenes.proofs.scene_laws.numbered_entries_add_up.Goals as goal
use Rattle.hub_scenes.proofs.Sums.{numbered-once}

pub returns : goal.returns
returns g c = record { law = λ price entries drawn. numbered-once price entries drawn }
