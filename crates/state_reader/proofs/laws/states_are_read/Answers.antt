use Rattle.state_reader.proofs.TextsRead.{states_are_read}
use Rattle.state_reader.proofs.laws.states_are_read.Goals as goal

pub returns : goal.returns
returns c = record { law = states_are_read }
