use Rattle.row_search.proofs.laws.found_is_at_hand.Goals as goal
use Rattle.row_search.proofs.Lawful.{found_is_at_hand}

pub returns : goal.returns
returns c = record { law = found_is_at_hand }
