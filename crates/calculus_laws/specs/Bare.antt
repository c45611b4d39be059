-- Examples of bare forms.
use Rattle.std.specs.Prelude.{◌≡◌, [], ◌∷◌, Some, None, codes}
use Rattle.calculus.specs.declared.plain.Origin.TheVariants as origins
use Rattle.calculus.specs.declared.plain.TermRest.TheVariants as rests
use Rattle.calculus.specs.Tree.{par, row, pattern, new, match, case, rest, any, some_process, same, list_pattern}
use Rattle.calculus.specs.Shape.{leaf, one, two, many, process, only}
use Rattle.calculus.specs.Written.{in_process, in_pattern, around, use_process, use_name, drop, quote, declare, bind_process, bind_rest, quote_pattern, closed, bare_form, form_of_one, form_of_two, form_of}
use Rattle.calculus.specs.Bare.{bare}
use Rattle.calculus.specs.Examples.{whole, num, nil, the_var, the_name, sent, heard, on, thin, parts, a_var, written_int, written_nil, quoted, written_send, written_receive, written_bind, binds}

-- a process and its bare form
pub record BareExamples : Type 0 where
  -- `(1 | 2) | Nil | *@3`
  pub flattened : bare (form_of (in_process par) (form_of (in_process par) (written_int 1 ∷ written_int 2 ∷ []) ∷ written_nil ∷ form_of_one drop (quoted 3) ∷ [])) ≡ process (whole 1 ∷ whole 2 ∷ whole 3 ∷ [])
  -- `new x, y in { x!(*y) }`
  pub indices_count_from_the_last : bare (form_of_one (declare ((codes "x", None) ∷ (codes "y", None) ∷ [])) (written_send (bare_form (use_name (codes "x"))) (form_of_one drop (bare_form (use_name (codes "y"))) ∷ []))) ≡ only (one (new (origins.Plain ∷ origins.Plain ∷ [])) (only (sent (the_name 1) (the_name 0 ∷ []))))
  -- ``new a(`rho:io:stdout`), b(`rho:io:stdoutAck`), c(`rho:id`) in { Nil }``
  pub fixed_names : bare (form_of_one (declare ((codes "a", Some (codes "rho:io:stdout")) ∷ (codes "b", Some (codes "rho:io:stdoutAck")) ∷ (codes "c", Some (codes "rho:id")) ∷ [])) written_nil) ≡ only (one (new (origins.Stdout ∷ origins.StdoutAck ∷ origins.Plain ∷ [])) nil)
  -- `for (@x <- @1) { @*@x!(x) }`
  pub quoted_drop : bare (written_receive (written_bind (quoted 1) (binds (codes "x") ∷ []) ∷ []) (written_send (form_of_one quote (form_of_one drop (form_of_one quote (bare_form (use_process (codes "x")))))) (bare_form (use_process (codes "x")) ∷ []))) ≡ only (heard (on (num 1) (a_var ∷ []) ∷ []) (only (sent (the_var 0) (the_var 0 ∷ []))))
  -- `for (@x <- @1) { for (@x <- @2) { x } }`: the inner x is used
  pub shadowed : bare (written_receive (written_bind (quoted 1) (binds (codes "x") ∷ []) ∷ []) (written_receive (written_bind (quoted 2) (binds (codes "x") ∷ []) ∷ []) (bare_form (use_process (codes "x"))))) ≡ only (heard (on (num 1) (a_var ∷ []) ∷ []) (only (heard (on (num 2) (a_var ∷ []) ∷ []) (the_var 0))))
  -- `for (@x <- @1) { for (@y, @x <- @2) { y } }`
  pub bound_in_order : bare (written_receive (written_bind (quoted 1) (binds (codes "x") ∷ []) ∷ []) (written_receive (written_bind (quoted 2) (binds (codes "y") ∷ binds (codes "x") ∷ []) ∷ []) (bare_form (use_process (codes "y"))))) ≡ only (heard (on (num 1) (a_var ∷ []) ∷ []) (only (heard (on (num 2) (a_var ∷ a_var ∷ []) ∷ []) (the_var 1))))
  -- `for (@x <- @1) { for (@x, @={x} <- @2) { Nil } }`: what stands in ={P} sees the scope outside the pattern
  pub same_sees_outside : bare (written_receive (written_bind (quoted 1) (binds (codes "x") ∷ []) ∷ []) (written_receive (written_bind (quoted 2) (binds (codes "x") ∷ form_of_one quote_pattern (form_of_one (in_pattern same) (bare_form (use_process (codes "x")))) ∷ []) ∷ []) written_nil)) ≡ only (heard (on (num 1) (a_var ∷ []) ∷ []) (only (heard (on (num 2) (a_var ∷ thin (one same (the_var 0)) ∷ []) ∷ []) nil)))
  -- `for (@{for (@y <- @1) { y } | x} <- @2) { x }`: a closed form binds nothing outside
  pub closed_form_binds_inside : bare (written_receive (written_bind (quoted 2) (form_of_one quote_pattern (form_of (in_pattern pattern) (form_of_one closed (written_receive (written_bind (quoted 1) (binds (codes "y") ∷ []) ∷ []) (bare_form (use_process (codes "y")))) ∷ bare_form (bind_process (codes "x")) ∷ [])) ∷ []) ∷ []) (bare_form (use_process (codes "x")))) ≡ only (heard (on (num 2) (parts (heard (on (num 1) (a_var ∷ []) ∷ []) (the_var 0) ∷ leaf some_process ∷ []) ∷ []) ∷ []) (the_var 0))
  -- `match 1 { [a ...b] => a }`: a remainder is bound after the members
  pub remainder_is_bound_last : bare (form_of_two (in_process match) (written_int 1) (form_of (around row) (form_of_two (around case) (form_of_two (in_pattern list_pattern) (form_of (around row) (bare_form (bind_process (codes "a")) ∷ [])) (bare_form (bind_rest (codes "b")))) (bare_form (use_process (codes "a"))) ∷ []))) ≡ only (two match (num 1) (many row (two case (thin (two list_pattern (many row (a_var ∷ [])) (leaf (rest rests.Var)))) (the_var 1) ∷ [])))
  -- `for (_ <- @1) { Nil }` and `for (@_ <- @1) { Nil }`
  pub wildcards_are_one : bare (written_receive (written_bind (quoted 1) (bare_form (in_pattern any) ∷ []) ∷ []) written_nil) ≡ bare (written_receive (written_bind (quoted 1) (form_of_one quote_pattern (bare_form (in_pattern any)) ∷ []) ∷ []) written_nil)
  -- `for (@x <- @1) { x }` and `for (@y <- @1) { y }`
  pub names_are_gone : bare (written_receive (written_bind (quoted 1) (binds (codes "x") ∷ []) ∷ []) (bare_form (use_process (codes "x")))) ≡ bare (written_receive (written_bind (quoted 1) (binds (codes "y") ∷ []) ∷ []) (bare_form (use_process (codes "y"))))
