use Rattle.racing_replays.proofs.laws.fresh_steps_suffice.Goals as goal
use Rattle.racing_replays.proofs.Premises.{fresh_steps_suffice}

pub returns : goal.returns
returns c = record { law = fresh_steps_suffice }
