-- Proofs of the examples of what printed texts spell.
use Rattle.std.specs.Prelude.{refl}
use Rattle.calculus.proofs.Opened.{computing}
use Rattle.printed_spelling.specs.TermExamples.{SpelledExamples}

pub spelled_examples : SpelledExamples
unfolding computing
spelled_examples =
    record {
      parts_and_members = refl;
      nested_variables = refl;
      two_binds = refl;
      closed_form = refl;
      cases = refl;
      a_fresh_name = refl;
    }
