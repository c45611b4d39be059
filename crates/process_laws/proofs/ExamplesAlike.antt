-- Proofs of the examples of matches that are alike.
use Rattle.std.specs.Prelude.{refl}
use Rattle.std.proofs.lemmas.Bool.{false≢true}
use Rattle.calculus.proofs.Opened.{computing}
use Rattle.process_laws.specs.MatchingExamples.{AlikeExamples}

pub alike_examples : AlikeExamples
unfolding computing
alike_examples =
    record {
      patterns_and_targets_vary = ((refl, tt), tt);
      bound_as_it_stands = refl;
      order_counts = λ h. false≢true h.0.0;
      number_counts = λ h. h.1;
    }
