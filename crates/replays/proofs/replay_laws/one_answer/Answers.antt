use Rattle.replays.proofs.replay_laws.one_answer.Goals as goal
use Rattle.replays.proofs.Answering.{one_answer}

pub returns : goal.returns
returns c = record { law = one_answer }
