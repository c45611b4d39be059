use Rattle.run_inputs.proofs.OneState.{one_state}
use Rattle.run_inputs.proofs.laws.one_state.Goals as goal

pub returns : goal.returns
returns c = record { law = one_state }
