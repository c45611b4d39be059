use Rattle.replays.proofs.run_laws.no_list_does_both.Goals as goal
use Rattle.replays.proofs.Lists.{no_list_does_both}

pub returns : goal.returns
returns c = record { law = no_list_does_both }
