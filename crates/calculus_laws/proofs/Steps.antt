-- Proofs of the examples of steps that are allowed or not.
use Rattle.std.specs.Prelude.{refl}
use Rattle.calculus_laws.specs.Steps.{StepExamples}
use Rattle.calculus.proofs.Opened.{hashing}

pub step_examples : StepExamples
unfolding hashing
step_examples =
    record {
      both_leave = refl;
      persistent_stays = refl;
      peek_leaves_the_datum = refl;
      persistent_datum_stays = refl;
      join_takes_both = refl;
      data_must_differ = refl;
      channels_must_agree = refl;
      patterns_must_match = refl;
      equal_ids = refl;
      no_repeat_with_a_linear_datum = refl;
      repeat_with_equal_ids = refl;
      built_in_takes = refl;
      stored_row_with_that_id = refl;
      it_is_stored = refl;
    }
