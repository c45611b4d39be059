use Rattle.calculus_laws.proofs.examples.form_examples.Goals as goal
use Rattle.calculus_laws.proofs.Form.{form_examples}

pub returns : goal.returns
returns c = record { examples = form_examples }
