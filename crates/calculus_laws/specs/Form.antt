-- Examples of trees that are closed processes or not.
use Rattle.std.specs.Prelude.{List, [], ◌∷◌, codes}
use Rattle.calculus.specs.declared.plain.Origin.TheVariants as origins
use Rattle.calculus.specs.Tree.{new, some_process, same, not_this, Tree}
use Rattle.calculus.specs.Shape.{leaf, one, only}
use Rattle.calculus.specs.Form.{IsClosed}
use Rattle.calculus.specs.Examples.{word, num, nil, the_var, the_name, tuple_of, call, sent, heard, on, thin, parts, a_var, a_name}

-- `for (P <- @1) { .. }` of these name patterns and this body
abbrev pub hears : List Tree → Tree → Tree
hears ps body = only (heard (on (num 1) ps ∷ []) body)

-- a tree is no closed process
abbrev pub IsNone : Tree → Type 0
IsNone t = IsClosed t → ⊥

-- which trees are closed processes
pub record FormExamples : Type 0 where
  -- `Nil`
  pub empty : IsClosed nil
  -- `for (@x <- @1) { x }`
  pub bound_variable : IsClosed (hears (a_var ∷ []) (the_var 0))
  -- `for (x <- @1) { x!(*x) }`
  pub bound_name : IsClosed (hears (a_name ∷ []) (only (sent (the_name 0) (the_name 0 ∷ []))))
  -- `for (@x <- @1) { for (@={x} <- @1) { Nil } }`
  pub same_sees_outside : IsClosed (hears (a_var ∷ []) (hears (thin (one same (the_var 0)) ∷ []) nil))
  -- `"a"`
  pub a_text : IsClosed (word (codes "a"))
  -- a variable that nothing binds
  pub free_variable : IsNone (the_var 0)
  -- a name variable where a process is bound: `for (@x <- @1) { *x }`
  pub another_sense : IsNone (hears (a_var ∷ []) (the_name 0))
  -- a whole number that is no Int
  pub too_great : IsNone (num 9223372036854775808)
  -- a tuple without members
  pub empty_tuple : IsNone (tuple_of [])
  -- a receive without binds
  pub no_binds : IsNone (only (heard [] nil))
  -- a pattern with two wide parts: `for (@{x | y} <- @1) { Nil }`
  pub two_wide_parts : IsNone (hears (parts (leaf some_process ∷ leaf some_process ∷ []) ∷ []) nil)
  -- a variable under `~`: `for (@{~x} <- @1) { Nil }`
  pub variable_under_not : IsNone (hears (thin (one not_this a_var) ∷ []) nil)
  -- a closed form with a variable of the scope outside: `for (x <- @1) { for (@{new a in { *x }} <- @1) { Nil } }`
  pub closed_form_with_outer_variable : IsNone (hears (a_name ∷ []) (hears (thin (one (new (origins.Plain ∷ [])) (the_name 1)) ∷ []) nil))
  -- a key as a method's name
  pub key_as_method : IsNone (call (codes "new") (num 1) [])
