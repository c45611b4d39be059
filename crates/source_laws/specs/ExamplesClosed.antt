-- Examples of what well-formedness asks for: without it a process that breaks no rule of scope need not be closed.
use Rattle.std.specs.Prelude.{◌≡◌, [], pos, ◌^◌}
use Rattle.calculus.specs.Tree.{par, int, tuple, receive}
use Rattle.calculus.specs.declared.plain.Kind.TheVariants as kinds
use Rattle.calculus.specs.Written.{in_process, Written, bare_form, form_of, form_of_two}
use Rattle.calculus.specs.Meaning.{row_of}
use Rattle.calculus.specs.Bare.{bare}
use Rattle.calculus.specs.Form.{IsClosed}
use Rattle.scope.specs.Rules.{broken_rules}
use Rattle.scope.specs.NormalForm.{normal_form}
use Rattle.source_laws.specs.WellFormed.{IsWellFormed}

-- a tuple with no member
abbrev pub empty_tuple : Written
empty_tuple = form_of (in_process tuple) []

-- a receive with no binds, and an empty body
abbrev pub no_binds : Written
no_binds = form_of_two (in_process (receive kinds.Linear)) (row_of []) (form_of (in_process par) [])

-- 2^63 as an Int
abbrev pub too_great : Written
too_great = bare_form (in_process (int (pos (2 ^ 63))))

-- what breaks no rule, comes to no closed process, and is not well formed
pub record IsOnlyAccepted (p : Written) : Type 0 where
  pub accepted : broken_rules p ≡ []
  pub not_closed : IsClosed (normal_form (bare p)) → ⊥
  pub ill_formed : IsWellFormed p → ⊥

pub record ClosedExamples : Type 0 where
  pub of_an_empty_tuple : IsOnlyAccepted empty_tuple
  pub of_no_binds : IsOnlyAccepted no_binds
  pub of_an_int : IsOnlyAccepted too_great
