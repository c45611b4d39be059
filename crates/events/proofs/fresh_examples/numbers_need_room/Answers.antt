use Rattle.events.proofs.fresh_examples.numbers_need_room.Goals as goal
use Rattle.events.proofs.FreshComputed.{numbers_need_room}

pub returns : goal.returns
returns c = record { law = numbers_need_room }
