-- Proofs of the examples of broken rules.
use Rattle.std.specs.Prelude.{refl}
use Rattle.scope.specs.ExamplesScope.{ScopeExamples}

pub scope_examples : ScopeExamples
scope_examples =
    record {
      well_scoped = refl;
      a_name_is_no_process = refl;
      a_process_is_no_name = refl;
      twice_in_a_bind = refl;
      twice_in_a_receive = refl;
      twice_declared = refl;
      no_such_uri = refl;
      variable_in_a_choice = refl;
      variable_in_a_negation = refl;
      variable_in_a_bundle = refl;
      closed_form_in_a_negation = refl;
      two_wide_parts = refl;
      nine_thin_parts = refl;
      nine_members = refl;
      open_form = refl;
      same_sees_outside = refl;
      in_reading_order = refl;
      in_a_match = refl;
      closed_in_closed = refl;
    }
