-- Proofs of the examples of trees that are closed processes or not.
use Rattle.std.proofs.Common.{rules, arith, zero, suc}
use Rattle.std.proofs.lemmas.Str.{IsUtf8-from_ascii}
use Rattle.std.specs.Str.{IsAscii}
use Rattle.std.specs.Prelude.{codes}
use Rattle.calculus.specs.Form.{IsBytes}
use Rattle.calculus_laws.specs.Form.{FormExamples}

ascii : IsAscii (codes "a")
ascii zero = omega arith
ascii (suc k) = omega arith

small : IsBytes (codes "a")
small zero d h = omega arith
small (suc k) d h = omega (arith, h)

pub form_examples : FormExamples
form_examples =
    record {
      empty = (tt, tt);
      bound_variable = search (rules, arith);
      bound_name = search (rules, arith);
      same_sees_outside = search (rules, arith);
      a_text = (tt, (((IsUtf8-from_ascii (codes "a") ascii, small), tt), tt));
      free_variable = λ h. absurd h.1.0.0;
      another_sense = λ h. cc h.1.0.1.1.0.1.0.0;
      too_great = λ h. omega (arith, h.1.0.0.1);
      empty_tuple = λ h. omega (arith, h.1.0.0);
      no_binds = λ h. omega (arith, h.1.0.0.0);
      two_wide_parts = λ h. omega (arith, h.1.0.1.0.1.0.1.1.0.1.0.0.0);
      variable_under_not = λ h. cc h.1.0.1.0.1.0.1.1.0.1.0.1.0.0;
      closed_form_with_outer_variable = λ h. absurd h.1.0.1.1.0.1.0.1.0.1.0.1.1.0.1.0.1.0.1.0.1.0.0;
      key_as_method = λ h. h.1.0.0.1 (search rules);
    }
