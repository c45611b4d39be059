use Rattle.calculus.specs.Meaning.{proc_written}
use Rattle.input_faults.specs.Faults.{broken_rule}
use Rattle.sources.proofs.Fronts.{breaks}
use Rattle.sources.proofs.reading.read_term.Goals as goal

pub returns-in-Err-clause-refused : goal.returns-in-Err-clause-refused
returns-in-Err-clause-refused c = λ text s. breaks text (proc_written c.args.process.now) (broken_rule c.in-Err.fault) s c.in-Err.ensures.rules.first
