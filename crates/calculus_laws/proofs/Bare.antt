-- Proofs of the examples of bare forms.
use Rattle.std.specs.Prelude.{refl}
use Rattle.calculus_laws.specs.Bare.{BareExamples}
use Rattle.calculus.proofs.Opened.{computing}

pub bare_examples : BareExamples
unfolding computing
bare_examples =
    record {
      flattened = refl;
      indices_count_from_the_last = refl;
      fixed_names = refl;
      quoted_drop = refl;
      shadowed = refl;
      bound_in_order = refl;
      same_sees_outside = refl;
      closed_form_binds_inside = refl;
      remainder_is_bound_last = refl;
      wildcards_are_one = refl;
      names_are_gone = refl;
    }
