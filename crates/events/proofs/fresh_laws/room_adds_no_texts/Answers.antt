use Rattle.events.proofs.fresh_laws.room_adds_no_texts.Goals as goal
use Rattle.events.proofs.OneList.{room_adds_no_texts}

pub returns : goal.returns
returns c = record { law = room_adds_no_texts }
