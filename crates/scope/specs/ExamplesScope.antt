-- Examples of broken rules.
use Rattle.std.specs.Prelude.{◌≡◌, ℕ, List, [], ◌∷◌, Some, None, codes, false}
use Rattle.calculus.specs.declared.plain.Rights.TheVariants as rights
use Rattle.calculus.specs.declared.plain.TermRest.TheVariants as rests
use Rattle.calculus.specs.Tree.{row, case, match, pattern, send, bundle, rest, same, either, not_this, list_pattern, set_pattern}
use Rattle.calculus.specs.Written.{in_process, in_pattern, around, use_process, use_name, drop, declare, bind_process, bind_name, bind_rest, quote_pattern, closed, Written, bare_form, form_of_one, form_of_two, form_of}
use Rattle.calculus.specs.Examples.{written_int, written_nil, quoted, written_send, written_receive, written_bind, binds}
use Rattle.scope.specs.Rules.{unbound, wants_name, wants_process, repeated, pattern_binder, pattern_wide, under_negation, unknown_uri, broken_rules}

-- a receive of one name pattern on @1
abbrev pub hear : Written → Written → Written
hear p body = written_receive (written_bind (quoted 1) (p ∷ []) ∷ []) body

-- a receive of a quoted pattern on @1, with an empty body
abbrev pub hear_pattern : Written → Written
hear_pattern p = hear (form_of_one quote_pattern p) written_nil

-- a name that stands for a process
abbrev pub the : List ℕ → Written
the x = bare_form (use_process x)

-- a name in a name's place
abbrev pub the_name : List ℕ → Written
the_name x = bare_form (use_name x)

-- a variable of a pattern
abbrev pub new_var : List ℕ → Written
new_var x = bare_form (bind_process x)

-- an Int as a pattern
abbrev pub int_pattern : ℕ → Written
int_pattern n = written_int n

-- a process and the rules that it breaks
pub record ScopeExamples : Type 0 where
  -- `new x in { x!(*x) }`
  pub well_scoped : broken_rules (form_of_one (declare ((codes "x", None) ∷ [])) (written_send (the_name (codes "x")) (form_of_one drop (the_name (codes "x")) ∷ []))) ≡ []
  -- `for (x <- @1) { x }`
  pub a_name_is_no_process : broken_rules (hear (bare_form (bind_name (codes "x"))) (the (codes "x"))) ≡ wants_process (codes "x") ∷ []
  -- `for (@x <- @1) { x!(1) }`
  pub a_process_is_no_name : broken_rules (hear (binds (codes "x")) (written_send (the_name (codes "x")) (written_int 1 ∷ []))) ≡ wants_name (codes "x") ∷ []
  -- `for (@x, @x <- @1) { Nil }`
  pub twice_in_a_bind : broken_rules (written_receive (written_bind (quoted 1) (binds (codes "x") ∷ binds (codes "x") ∷ []) ∷ []) written_nil) ≡ repeated (codes "x") ∷ []
  -- `for (x <- @1; x <- @2) { Nil }`
  pub twice_in_a_receive : broken_rules (written_receive (written_bind (quoted 1) (bare_form (bind_name (codes "x")) ∷ []) ∷ written_bind (quoted 2) (bare_form (bind_name (codes "x")) ∷ []) ∷ []) written_nil) ≡ repeated (codes "x") ∷ []
  -- `new x, x in Nil`
  pub twice_declared : broken_rules (form_of_one (declare ((codes "x", None) ∷ (codes "x", Some (codes "rho:id")) ∷ [])) written_nil) ≡ repeated (codes "x") ∷ []
  -- ``new x(`rho:io:stdin`), y(`rho:io:stdoutAck`) in Nil``
  pub no_such_uri : broken_rules (form_of_one (declare ((codes "x", Some (codes "rho:io:stdin")) ∷ (codes "y", Some (codes "rho:io:stdoutAck")) ∷ [])) written_nil) ≡ unknown_uri (codes "rho:io:stdin") ∷ []
  -- `for (@{x \/ 1} <- @1) { Nil }`
  pub variable_in_a_choice : broken_rules (hear_pattern (form_of_two (in_pattern either) (new_var (codes "x")) (int_pattern 1))) ≡ under_negation (codes "x") ∷ []
  -- `for (@{~x} <- @1) { Nil }`
  pub variable_in_a_negation : broken_rules (hear_pattern (form_of_one (in_pattern not_this) (new_var (codes "x")))) ≡ under_negation (codes "x") ∷ []
  -- `for (@{bundle+ {x}} <- @1) { Nil }`
  pub variable_in_a_bundle : broken_rules (hear_pattern (form_of_one (in_pattern (bundle rights.Write)) (new_var (codes "x")))) ≡ under_negation (codes "x") ∷ []
  -- `for (@{~{for (x <- @1) { Nil }}} <- @1) { Nil }`: a closed form's own variables are no variables of the pattern
  pub closed_form_in_a_negation : broken_rules (hear_pattern (form_of_one (in_pattern not_this) (form_of_one closed (hear (bare_form (bind_name (codes "x"))) written_nil)))) ≡ []
  -- `for (@{@1!(x) | y | z} <- @1) { Nil }`
  pub two_wide_parts : broken_rules (hear_pattern (form_of (in_pattern pattern) (form_of_two (in_pattern (send false)) (form_of_one quote_pattern (int_pattern 1)) (form_of (around row) (new_var (codes "x") ∷ [])) ∷ new_var (codes "y") ∷ new_var (codes "z") ∷ []))) ≡ pattern_wide ∷ []
  -- `for (@{1 | {2 | 3 | 4 | 5} | 6 | 7 | 8 | 9} <- @1) { Nil }`: parallel patterns are flattened
  pub nine_thin_parts : broken_rules (hear_pattern (form_of (in_pattern pattern) (int_pattern 1 ∷ form_of (in_pattern pattern) (int_pattern 2 ∷ int_pattern 3 ∷ int_pattern 4 ∷ int_pattern 5 ∷ []) ∷ int_pattern 6 ∷ int_pattern 7 ∷ int_pattern 8 ∷ int_pattern 9 ∷ []))) ≡ pattern_wide ∷ []
  -- `for (@Set(1, 2, 3, 4, 5, 6, 7, 8, 9) <- @1) { Nil }`
  pub nine_members : broken_rules (hear_pattern (form_of_two (in_pattern set_pattern) (form_of (around row) (int_pattern 1 ∷ int_pattern 2 ∷ int_pattern 3 ∷ int_pattern 4 ∷ int_pattern 5 ∷ int_pattern 6 ∷ int_pattern 7 ∷ int_pattern 8 ∷ int_pattern 9 ∷ [])) (bare_form (around (rest rests.No))))) ≡ pattern_wide ∷ []
  -- `for (@{new a in a!(y)} <- @1) { Nil }`: the closed form is refused, and then the variable in it
  pub open_form : broken_rules (hear_pattern (form_of_one closed (form_of_one (declare ((codes "a", None) ∷ [])) (written_send (the_name (codes "a")) (the (codes "y") ∷ []))))) ≡ pattern_binder ∷ unbound (codes "y") ∷ []
  -- `for (@x <- @1; @=x <- @2) { Nil }`: what stands in ={P} sees the scope outside the receive
  pub same_sees_outside : broken_rules (written_receive (written_bind (quoted 1) (binds (codes "x") ∷ []) ∷ written_bind (quoted 2) (form_of_one quote_pattern (form_of_one (in_pattern same) (the (codes "x"))) ∷ []) ∷ []) written_nil) ≡ unbound (codes "x") ∷ []
  -- `for (x, x <- y) { @2!(z) }`: patterns before the channel, and the channel before the body
  pub in_reading_order : broken_rules (written_receive (written_bind (the_name (codes "y")) (bare_form (bind_name (codes "x")) ∷ bare_form (bind_name (codes "x")) ∷ []) ∷ []) (written_send (quoted 2) (the (codes "z") ∷ []))) ≡ repeated (codes "x") ∷ unbound (codes "y") ∷ unbound (codes "z") ∷ []
  -- `match x { [a ...a] => b }`: the target before the cases, a remainder after the members
  pub in_a_match : broken_rules (form_of_two (in_process match) (the (codes "x")) (form_of (around row) (form_of_two (around case) (form_of_two (in_pattern list_pattern) (form_of (around row) (new_var (codes "a") ∷ [])) (bare_form (bind_rest (codes "a")))) (the (codes "b")) ∷ []))) ≡ unbound (codes "x") ∷ repeated (codes "a") ∷ unbound (codes "b") ∷ []
  -- `match 1 { {new a in match a { {new b in b!(a)} => Nil}} => Nil }`: an inner closed form does not see what an outer one binds
  pub closed_in_closed : broken_rules (form_of_two (in_process match) (written_int 1) (form_of (around row) (form_of_two (around case) (form_of_one closed (form_of_one (declare ((codes "a", None) ∷ [])) (form_of_two (in_process match) (form_of_one drop (the_name (codes "a"))) (form_of (around row) (form_of_two (around case) (form_of_one closed (form_of_one (declare ((codes "b", None) ∷ [])) (written_send (the_name (codes "b")) (form_of_one drop (the_name (codes "a")) ∷ [])))) written_nil ∷ []))))) written_nil ∷ []))) ≡ pattern_binder ∷ unbound (codes "a") ∷ []
