use Rattle.process_laws.proofs.congruent_examples.same_work_examples.Goals as goal
use Rattle.process_laws.proofs.ExamplesWork.{same_work_examples}

pub returns : goal.returns
returns c = record { examples = same_work_examples }
