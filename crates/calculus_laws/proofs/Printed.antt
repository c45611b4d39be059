-- Proofs of the examples of printed texts.
use Rattle.std.specs.Prelude.{refl}
use Rattle.calculus_laws.specs.Printed.{PrintedExamples}
use Rattle.calculus.proofs.Opened.{computing}

pub printed_examples : PrintedExamples
unfolding computing
printed_examples =
    record {
      empty = refl;
      parts_ascend = refl;
      below_zero = refl;
      string_with_escapes = refl;
      set_with_repeats = refl;
      one_tuple = refl;
      fixed_name = refl;
      nested_variables = refl;
      remainder_of_a_bind = refl;
      empty_bind = refl;
      map_pattern = refl;
      both_in_braces = refl;
      same_process = refl;
      closed_form = refl;
      match_of_an_operator = refl;
      cases_count_afresh = refl;
      method_on_a_method = refl;
      negation = refl;
      names = refl;
      a_fresh_name_and_bytes = refl;
      bundle_without_rights = refl;
      wild_remainder = refl;
      wild_remainder_of_a_bind = refl;
    }
