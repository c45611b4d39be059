-- What trees become when their outer variables are changed.
use Rattle.std.specs.Prelude.{ℕ, List, [], ◌∷◌, ◌++◌, reverse, ⊤}
use Rattle.calculus.specs.Tree.{Label, var, name_var, Tree, trees}
use Rattle.calculus.specs.Shape.{held, listed, label_of, at}
use Rattle.calculus.specs.Substitution.{Change, change}

-- the parts of the value of an outer variable: the last value is that of the last variable bound
unfoldable pub value_parts : List Tree → Change
value_parts vs k d form = trees (held (at k (reverse vs)))

-- what a tree becomes under d inner variables: what comes in place of a use of an outer variable, or one tree
unfoldable pub filled : Change → ℕ → Tree → List Tree
filled f d t = listed (change f d t)

-- what these become, one after another
abbrev pub all_filled : Change → ℕ → List Tree → List Tree
all_filled f d [] = []
all_filled f d (t ∷ ts) = filled f d t ++ all_filled f d ts

-- a label that is no variable
abbrev pub IsFormLabel : Label → Type 0
IsFormLabel (var i) = ⊥
IsFormLabel (name_var i) = ⊥
IsFormLabel _ = ⊤

-- a tree that is no use of a variable, so that it becomes one tree
abbrev pub IsForm : Tree → Type 0
IsForm t = IsFormLabel (label_of t)
