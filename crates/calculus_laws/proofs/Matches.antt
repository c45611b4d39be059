-- Proofs of the examples of matches of binds against arguments.
use Rattle.std.specs.Prelude.{refl}
use Rattle.calculus_laws.specs.Matches.{MatchExamples}
use Rattle.calculus.proofs.Opened.{computing}

pub match_examples : MatchExamples
unfolding computing
match_examples =
    record {
      thin_takes_its_part = refl;
      wide_part_in_the_middle = refl;
      bindings_in_written_order = refl;
      thin_parts_try_again = refl;
      wide_part_takes_what_is_left = refl;
      thin_part_in_a_send = refl;
      set_with_remainder = refl;
      map_by_value = refl;
      not_a_congruent_process = refl;
      both_match = refl;
      same_up_to_congruence = refl;
      closed_form_without_names = refl;
      remainder_of_arguments = refl;
      numbers_must_agree = refl;
      rights_must_agree = refl;
      persistence_must_agree = refl;
      name_pattern_inside = refl;
      all_matches_in_order = refl;
      wild_remainder_of_a_list = refl;
      wild_remainder_of_a_set = refl;
      wild_remainder_of_arguments = refl;
      set_in_two_ways = refl;
      map_in_two_ways = refl;
      bundle_without_rights = refl;
    }
