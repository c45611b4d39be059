-- Short words for trees: how they are built, and what they hold.
use Rattle.std.specs.Prelude.{ℕ, zero, suc, ◌+◌, List, [], ◌∷◌}
use Rattle.calculus.specs.Tree.{Label, par, Tree, node, Trees, none, also, trees}

-- a form with no constituents
abbrev pub leaf : Label → Tree
leaf l = node l none

-- a form with one constituent
abbrev pub one : Label → Tree → Tree
one l t = node l (also t none)

-- a form with two constituents
abbrev pub two : Label → Tree → Tree → Tree
two l t u = node l (also t (also u none))

-- a form with three constituents
abbrev pub three : Label → Tree → Tree → Tree → Tree
three l t u v = node l (also t (also u (also v none)))

-- a form with any number of constituents
abbrev pub many : Label → List Tree → Tree
many l ts = node l (trees ts)

-- a process of these parts
abbrev pub process : List Tree → Tree
process ts = many par ts

-- a process of one part
abbrev pub only : Tree → Tree
only t = one par t

-- the list of these trees
abbrev pub listed : Trees → List Tree
listed none = []
listed (also t ts) = t ∷ listed ts

-- how many trees these are
abbrev pub count : Trees → ℕ
count none = 0
count (also t ts) = count ts + 1

-- these trees and then those
abbrev pub joined_trees : Trees → Trees → Trees
joined_trees none us = us
joined_trees (also t ts) us = also t (joined_trees ts us)

-- a tree's form
abbrev pub label_of : Tree → Label
label_of (node l ts) = l

-- a tree's constituents
abbrev pub held : Tree → List Tree
held (node l ts) = listed ts

-- the constituent number i from 0, and the empty process where there is none
abbrev pub at : ℕ → List Tree → Tree
at i [] = leaf par
at zero (t ∷ ts) = t
at (suc i) (t ∷ ts) = at i ts
