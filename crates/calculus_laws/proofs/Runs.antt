-- Proofs of the examples of whole deploys.
use Rattle.std.specs.Prelude.{refl}
use Rattle.calculus_laws.specs.Runs.{RunExamples}
use Rattle.calculus.proofs.Opened.{hashing}

pub run_examples : RunExamples
unfolding hashing
run_examples =
    record {
      first_path = refl;
      past_the_limit = refl;
      nothing_to_do = refl;
      equal_data = refl;
      join = refl;
      congruent_channels = refl;
      peek = refl;
      printing = refl;
      prints_a_line = refl;
      prints_nothing_yet = refl;
      body_faults = refl;
      source_faults = refl;
      repeats = refl;
      repeats_begin_at_0 = (refl, refl);
      take = refl;
      take_and_then_peek = (refl, refl);
      nothing_more = refl;
      exhausted_at_once = refl;
      a_step_is_left = refl;
    }
