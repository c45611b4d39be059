-- Proofs of the examples of texts of states.
use Rattle.std.specs.Prelude.{refl}
use Rattle.calculus.proofs.Opened.{hashing}
use Rattle.events.specs.StateExamples.{StateExamples}

pub state_examples : StateExamples
unfolding hashing
state_examples = record { no_rows = refl; its_length = refl; one_row = refl }
