-- Closed values in place of variables.
use Rattle.std.specs.Prelude.{ℕ, ◌+◌, ◌-◌, cond, leb, List, length, reverse}
use Rattle.calculus.specs.Tree.{Label, par, var, name_var, Tree, node, Trees, none, also, trees}
use Rattle.calculus.specs.Shape.{leaf, held, listed, joined_trees, at}
use Rattle.calculus.specs.Normal.{made_node}
use Rattle.calculus.specs.Variables.{binders}

-- what comes in place of a use of an outer variable: of the variable's index outside, the number of variables bound further inside, and the form of the use
abbrev pub Change : Type 0
Change = ℕ → ℕ → (ℕ → Label) → Trees

-- a use of the variable of index i under d inner variables: a use of these stays, and that of an outer one is changed
abbrev pub changed : Change → ℕ → (ℕ → Label) → ℕ → Trees
changed f d form i = cond (leb d i) (f (i - d) d form) (also (leaf (form i)) none)

abbrev mutual
  -- a tree with each use of an outer variable changed, as a list of trees, since the parts of a value join the parts around the use
  pub change : Change → ℕ → Tree → Trees
  change f d (node (var i) ts) = changed f d var i
  change f d (node (name_var i) ts) = changed f d name_var i
  change f d (node l ts) = also (made_node l (listed (change_all f d (length (binders l ts)) ts))) none

  -- constituents so changed, of which the last one stands under n more variables
  pub change_all : Change → ℕ → ℕ → Trees → Trees
  change_all f d n none = none
  change_all f d n (also t none) = change f (d + n) t
  change_all f d n (also t (also u us)) = joined_trees (change f d t) (change_all f d n (also u us))

-- the first of these trees, and the empty process where there is none
abbrev pub the_one : Trees → Tree
the_one none = leaf par
the_one (also t ts) = t

-- a body with closed values for the variables that are bound around it, the first value for the first one bound
unfoldable pub put : List Tree → Tree → Tree
put vs t = the_one (change (λ k d form. trees (held (at k (reverse vs)))) 0 t)

-- a body in which the outer variable of index k is now the one of index f k
unfoldable pub renumber : (ℕ → ℕ) → Tree → Tree
renumber f t = the_one (change (λ k d form. also (leaf (form (f k + d))) none) 0 t)
