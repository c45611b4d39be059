-- Proofs of the examples of congruence, codes and substitution.
use Rattle.std.specs.Prelude.{refl}
use Rattle.calculus_laws.specs.Congruence.{CongruenceExamples, CodeExamples}
use Rattle.calculus.proofs.Opened.{computing}

pub congruence_examples : CongruenceExamples
unfolding computing
congruence_examples =
    record {
      parts_in_any_order = refl;
      sets_in_sets = refl;
      pairs_in_any_order = refl;
      members_with_repeats = refl;
      parts_with_repeats = refl;
      lists_in_order = refl;
      channels_are_processes = refl;
      binds_in_order = refl;
      patterns_in_order = refl;
      same_holds_a_process = refl;
      closed_forms_are_processes = refl;
      kinds_differ = refl;
    }

pub code_examples : CodeExamples
unfolding computing
code_examples =
    record {
      code_of_a_send = refl;
      code_of_a_bundle = refl;
      parts_ascend = refl;
      members_ascend = refl;
      height_of_nil = refl;
      height_of_an_empty_list = refl;
      height_of_a_map = refl;
      parts_of_a_value_join = refl;
      values_in_order = refl;
      inner_variables_stay = refl;
      same_is_reached = refl;
      drops_and_channels = refl;
      made_in_order = refl;
    }
