-- Which variables a pattern and a form bind, and which forms of a pattern take all that is left.
use Rattle.std.specs.Prelude.{Bool, true, false, List, [], ◌∷◌, ◌++◌, map as each}
use Rattle.calculus.specs.Tree.{Label, receive, new, match, case, rest, any, some_process, some_name, same, both, either, not_this, Tree, node, Trees, none, also}
use Rattle.calculus.specs.declared.plain.TermRest.TheVariants as rests

-- what a variable stands for: a process or a name
pub data Sense : Type 0 where
  a_process : Sense
  a_name : Sense

-- the variables that a form of a pattern binds, where its constituents bind these: what stands in ={P} and in a closed form binds none outside
abbrev pub own : Label → List Sense → List Sense
own some_process vs = a_process ∷ []
own some_name vs = a_name ∷ []
own (rest rests.Var) vs = a_process ∷ []
own same vs = []
own (receive k) vs = []
own (new os) vs = []
own match vs = []
own _ vs = vs

abbrev mutual
  -- the variables that a pattern binds, in written order
  pub bound : Tree → List Sense
  bound (node l ts) = own l (bound_all ts)

  -- the variables that these bind, one after another
  pub bound_all : Trees → List Sense
  bound_all none = []
  bound_all (also t ts) = bound t ++ bound_all ts

-- the variables that a form of a process binds in its last constituent: a receive, a case and a `new` bind some
abbrev pub binders : Label → Trees → List Sense
binders (receive k) ts = bound_all ts
binders case ts = bound_all ts
binders (new os) ts = each (λ o. a_name) os
binders _ ts = []

-- the forms that take all parts that are left; the other forms of a pattern are thin and take one part
abbrev pub is_wide : Label → Bool
is_wide any = true
is_wide some_process = true
is_wide some_name = true
is_wide same = true
is_wide both = true
is_wide either = true
is_wide not_this = true
is_wide _ = false
