-- Groups of channels, and lists of groups.
use Rattle.std.specs.Prelude.{Bool, true, false, cond, not, ◌&&◌, List, [], ◌∷◌, filter}
use Rattle.std.specs.List.{list_any}
use Rattle.calculus.specs.Tree.{Tree}
use Rattle.calculus.specs.CodeLaws.{IsShort}
use Rattle.calculus.specs.Congruence.{congruent}
use Rattle.calculus.specs.Form.{IsClosed}

-- the channels of a receive, in the order of its binds
abbrev pub Channels : Type 0
Channels = List Tree

-- a channel: a closed process whose code has room in four bytes
pub record IsChannel (t : Tree) : Type 0 where
  pub closed : IsClosed t
  pub short : IsShort t

-- whether two groups have congruent channels, one by one
abbrev pub same_group : Channels → Channels → Bool
same_group [] [] = true
same_group (c ∷ cs) (d ∷ ds) = congruent c d && same_group cs ds
same_group _ _ = false

-- whether a group holds a channel
abbrev pub holds : Tree → Channels → Bool
holds c g = list_any (congruent c) g

-- whether a group is one of these
abbrev pub stands : Channels → List Channels → Bool
stands g gs = list_any (same_group g) gs

-- each of these groups once, in the order in which they first stand
abbrev pub firsts : List Channels → List Channels
firsts [] = []
firsts (g ∷ gs) = g ∷ filter (λ h. not (same_group g h)) (firsts gs)

-- these groups without the last that is equal to one
abbrev pub but_last : Channels → List Channels → List Channels
but_last g [] = []
but_last g (h ∷ hs) = cond (same_group g h && not (stands g hs)) hs (h ∷ but_last g hs)
