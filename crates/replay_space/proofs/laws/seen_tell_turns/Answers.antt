use Rattle.replay_space.proofs.Kept.{seen_tell_turns}
use Rattle.replay_space.proofs.laws.seen_tell_turns.Goals as goal

pub returns : goal.returns
returns c = record { law = seen_tell_turns }
