-- The variables that a tree binds are as many as are counted form by form.
use Rattle.std.proofs.Common.{◌≡◌, ℕ, List, length, refl, arith, length-append}
use Rattle.calculus.specs.Tree.{Label, receive, new, match, rest, some_process, some_name, same, Tree, node, Trees, none, also}
use Rattle.calculus.specs.declared.plain.TermRest.TheVariants as rests
use Rattle.calculus.specs.Variables.{Sense, own, bound, bound_all}
use Rattle.term_bounds.specs.Bound.{own_count, bound_count, bound_counts}

own-counted : (l : Label) (vs : List Sense) (n : ℕ) → n ≡ length vs → own_count l n ≡ length (own l vs)
own-counted some_process vs n e = refl
own-counted some_name vs n e = refl
own-counted (rest rests.Var) vs n e = refl
own-counted (rest rests.No) vs n e = e
own-counted (rest rests.Wild) vs n e = e
own-counted same vs n e = refl
own-counted (receive k) vs n e = refl
own-counted (new os) vs n e = refl
own-counted match vs n e = refl
own-counted _ vs n e = e

mutual
  pub count-bound : (t : Tree) → bound_count t ≡ length (bound t)
  count-bound (node l ts) = own-counted l (bound_all ts) (bound_counts ts) (counts-bound ts)

  pub counts-bound : (ts : Trees) → bound_counts ts ≡ length (bound_all ts)
  counts-bound none = refl
  counts-bound (also t ts) = omega (arith, count-bound t, counts-bound ts, length-append (bound t) (bound_all ts))
