-- Proofs of the examples of values, with prices and faults.
use Rattle.std.proofs.Common.{refl, arith}
use Rattle.calculus.specs.Examples.{op_prices}
use Rattle.calculus_laws.specs.Values.{ValueExamples}
use Rattle.calculus_laws.proofs.ByteLimits.{value-word, value-too-big}
use Rattle.calculus.proofs.Opened.{computing}

pub value_examples : ValueExamples
unfolding computing
value_examples =
    record {
      nil_is_nil = refl;
      parts_are_evaluated = refl;
      division_truncates = refl;
      remainder_has_the_left_sign = refl;
      remainder_overflows = refl;
      division_by_zero = refl;
      bundle_keeps_parts_in_order = refl;
      equality_is_congruence = refl;
      no_short_cut = refl;
      members_once = refl;
      greatest_value_stays = refl;
      right_pairs_win = refl;
      slice_by_characters = refl;
      kinds_before_index = refl;
      digits_of_both_cases = refl;
      number_of_arguments = refl;
      pairs_ascend = refl;
      first_fault_in_code_order = refl;
      sends_are_not_evaluated = refl;
      deepest_value = refl;
      value_too_deep = refl;
      longest_value = λ s h. value-word op_prices s (omega (arith, h));
      value_too_big = λ s h. value-too-big op_prices s (omega (arith, h));
      too_deep_before_too_big = λ s h. refl;
    }
