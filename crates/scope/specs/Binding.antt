-- The variables that written text binds and uses.
use Rattle.std.specs.Prelude.{ℕ, Bool, true, false, ◌||◌, cond, List, [], ◌∷◌, ◌++◌, map as each, reverse, Option, Some, None}
use Rattle.std.specs.Str.{bytes_eq}
use Rattle.calculus.specs.Tree.{receive, case, same}
use Rattle.calculus.specs.Written.{Form, in_process, in_pattern, around, use_process, use_name, declare, bind_process, bind_name, bind_rest, quote_pattern, Written, form, Writtens, no_more, more}
use Rattle.calculus.specs.Variables.{Sense, a_process, a_name}

-- a variable: its name, and what it stands for
abbrev pub Variable : Type 0
Variable = List ℕ × Sense

-- the variables in scope, the last one bound first
abbrev pub Scope : Type 0
Scope = List Variable

-- what a name stands for: the last variable of this name decides
abbrev pub sense_of : List ℕ → Scope → Option Sense
sense_of x [] = None
sense_of x (y ∷ ys) = cond (bytes_eq x y.0) (Some y.1) (sense_of x ys)

-- whether a name has no variable in scope
abbrev pub is_absent : Option Sense → Bool
is_absent None = true
is_absent (Some s) = false

-- the variables that a form of a pattern binds, where its constituents bind these: what stands in ={P}, in a closed form and in any process binds none outside
abbrev pub own_variables : Form → List Variable → List Variable
own_variables (bind_process x) vs = (x, a_process) ∷ []
own_variables (bind_name x) vs = (x, a_name) ∷ []
own_variables (bind_rest x) vs = (x, a_process) ∷ []
own_variables (in_pattern same) vs = []
own_variables (in_pattern l) vs = vs
own_variables (around l) vs = vs
own_variables quote_pattern vs = vs
own_variables _ vs = []

abbrev mutual
  -- the variables that a pattern binds, in written order
  pub variables : Written → List Variable
  variables (form f ts) = own_variables f (all_variables ts)

  -- the variables that these bind, one after another
  pub all_variables : Writtens → List Variable
  all_variables no_more = []
  all_variables (more t ts) = variables t ++ all_variables ts

-- the names that a `new` declares
abbrev pub declared_variables : List (List ℕ × Option (List ℕ)) → List Variable
declared_variables ds = each (λ d. (d.0, a_name)) ds

-- a scope with these variables bound after its own, in this order
abbrev pub inside : List Variable → Scope → Scope
inside vs v = reverse vs ++ v

abbrev mutual
  -- whether something uses a name that has no variable in this scope or in itself
  pub uses_more : Written → Scope → Bool
  uses_more (form (use_process x) ts) v = is_absent (sense_of x v)
  uses_more (form (use_name x) ts) v = is_absent (sense_of x v)
  uses_more (form (in_process (receive k)) (more bs ts)) v = uses_more bs v || any_uses_more ts (inside (variables bs) v)
  uses_more (form (around case) (more p ts)) v = uses_more p v || any_uses_more ts (inside (variables p) v)
  uses_more (form (declare ds) ts) v = any_uses_more ts (inside (declared_variables ds) v)
  uses_more (form f ts) v = any_uses_more ts v

  -- whether one of these does
  pub any_uses_more : Writtens → Scope → Bool
  any_uses_more no_more v = false
  any_uses_more (more t ts) v = uses_more t v || any_uses_more ts v
