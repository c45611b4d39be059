-- Proofs of the examples of made inputs.
use Rattle.std.specs.Prelude.{refl}
use Rattle.std.specs.Fmt.{digits}
use Rattle.made_input.specs.Examples.{MadeExamples}

pub made_examples : MadeExamples
unfolding digits
made_examples = record { of_four = refl; of_ten = (refl, refl, refl, refl); of_most = (refl, refl, refl, refl) }
