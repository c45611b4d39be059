use Rattle.run_inputs.proofs.OneState.{states_are_not_refused}
use Rattle.run_inputs.proofs.laws.states_are_not_refused.Goals as goal

pub returns : goal.returns
returns c = record { law = states_are_not_refused }
