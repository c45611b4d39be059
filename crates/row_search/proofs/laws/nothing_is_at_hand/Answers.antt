use Rattle.row_search.proofs.laws.nothing_is_at_hand.Goals as goal
use Rattle.row_search.proofs.Lawful.{nothing_is_at_hand}

pub returns : goal.returns
returns c = record { law = nothing_is_at_hand }
