-- How many variables stand bound in a tree for what is around it.
use Rattle.std.specs.Prelude.{ℕ, ◌+◌}
use Rattle.calculus.specs.Tree.{Label, receive, new, match, rest, some_process, some_name, same, Tree, node, Trees, none, also}
use Rattle.calculus.specs.declared.plain.TermRest.TheVariants as rests

-- how many a form binds, where its constituents bind n
abbrev pub own_count : Label → ℕ → ℕ
own_count some_process n = 1
own_count some_name n = 1
own_count (rest rests.Var) n = 1
own_count same n = 0
own_count (receive k) n = 0
own_count (new os) n = 0
own_count match n = 0
own_count _ n = n

abbrev mutual
  -- how many variables a tree binds
  pub bound_count : Tree → ℕ
  bound_count (node l ts) = own_count l (bound_counts ts)

  -- how many these bind together
  pub bound_counts : Trees → ℕ
  bound_counts none = 0
  bound_counts (also t ts) = bound_count t + bound_counts ts
