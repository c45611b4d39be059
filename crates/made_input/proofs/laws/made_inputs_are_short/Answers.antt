use Rattle.made_input.proofs.Lengths.{made_inputs_are_short}
use Rattle.made_input.proofs.laws.made_inputs_are_short.Goals as goal

pub returns : goal.returns
returns c = record { law = made_inputs_are_short }
