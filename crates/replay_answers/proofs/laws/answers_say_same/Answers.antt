use Rattle.replay_answers.proofs.Lawful.{answers_say_same}
use Rattle.replay_answers.proofs.laws.answers_say_same.Goals as goal

pub returns : goal.returns
returns c = record { law = answers_say_same }
