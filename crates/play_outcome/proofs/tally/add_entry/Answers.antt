use Rattle.play_outcome.proofs.Tallying.{none-more}
use Rattle.play_outcome.proofs.tally.add_entry.Goals as goal

pub returns-in-None : goal.returns-in-None
returns-in-None c fault es t = none-more fault es c.args.tally.now t c.args.entry c.in-None.is
