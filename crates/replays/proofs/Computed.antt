-- Proofs of the examples of answers to replays.
use Rattle.std.specs.Prelude.{[], ◌∷◌, refl}
use Rattle.calculus.specs.Examples.{bag}
use Rattle.calculus.proofs.Opened.{hashing}
use Rattle.calculus.proofs.Candidates.{candidates_suffice}
use Rattle.replays.specs.Replays.{by_header, by_step, by_rest, by_end}
use Rattle.replays.proofs.LeastSteps.{least-among}
use Rattle.replays.specs.ReplayExamples.{printed_datum, second_datum, printing_step, answering_step, answer_row, ReplayExamples}

pub replay_examples : ReplayExamples
unfolding hashing
replay_examples =
    record {
      nothing_happens = by_end refl (1, refl) (λ d s. candidates_suffice (record { kept = []; offered = [] }) [] refl s);
      another_base = by_header refl;
      base_comes_first = by_header refl;
      another_source = by_header refl;
      other_prices = by_header refl;
      no_limit = by_header refl;
      above_the_greatest = by_header refl;
      not_allowed = by_step refl (record { before = []; step = printing_step; after = []; is = refl; place = refl; state = _; leads = (1, refl); stops = refl });
      made_twice = by_step refl (record { before = printing_step ∷ []; step = printing_step; after = []; is = refl; place = refl; state = _; leads = (1, refl); stops = refl });
      five_is_printed = by_end refl (1, refl) (λ d s. candidates_suffice (record { kept = []; offered = [] }) (printing_step ∷ []) refl s);
      past_the_limit = by_end refl (1, refl) (λ d s. cc d);
      five_is_printed_and_answered = by_end refl (1, refl) (λ d s. candidates_suffice (record { kept = []; offered = answer_row ∷ [] }) (answering_step ∷ []) refl s);
      step_is_left = by_rest refl (1, refl) refl (least-among (bag (printed_datum ∷ [])) [] printing_step refl refl);
      least_step_is_named = by_rest refl (1, refl) refl (least-among (bag (second_datum ∷ printed_datum ∷ [])) [] printing_step refl refl);
      source_faults = by_end refl (1, refl) (λ d s. cc d);
      second_step_faults = by_end refl (1, refl) (λ d s. cc d);
    }
