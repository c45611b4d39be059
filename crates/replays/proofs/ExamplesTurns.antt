-- Proofs of the examples of lists of steps that are allowed in turn.
use Rattle.std.proofs.Common.{[], ◌∷◌, refl}
use Rattle.calculus.specs.Runs.{deploy_of}
use Rattle.calculus.specs.Examples.{nil}
use Rattle.calculus.proofs.Opened.{hashing}
use Rattle.replays.specs.ReplayExamples.{prices, source, printed_datum, printing_step}
use Rattle.replays.specs.RunExamples.{TurnExamples}
use Rattle.replays.proofs.Lists.{legal_steps_are_allowed}

pub turn_examples : TurnExamples
unfolding hashing
turn_examples =
    record {
      none = legal_steps_are_allowed (deploy_of prices 9 (printed_datum ∷ []) nil source) [] _ (1, refl);
      once = legal_steps_are_allowed (deploy_of prices 9 (printed_datum ∷ []) nil source) (printing_step ∷ []) _ (1, refl);
      twice = λ h. cc (h (printing_step ∷ []) printing_step [] _ refl (1, refl));
    }
