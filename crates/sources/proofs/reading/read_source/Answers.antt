use Rattle.sources.proofs.Closing.{closed_answer}
use Rattle.sources.proofs.reading.read_source.Goals as goal

pub returns-in-Ok-clause-closed : goal.returns-in-Ok-clause-closed
returns-in-Ok-clause-closed c = closed_answer c.args.text.now c.read_term.result (c.read_term.ensures.term c.args.text.now c.in-Ok.ensures.spelt)
