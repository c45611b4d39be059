use Rattle.code_faults.proofs.ExamplesPlaces.{place_examples}
use Rattle.code_faults.proofs.examples.place_examples.Goals as goal

pub returns : goal.returns
returns c = record { examples = place_examples }
