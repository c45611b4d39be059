-- The first of all matches, as trees.
use Rattle.std.specs.Prelude.{◌≡◌, Bool, true, cond, List, [], ◌∷◌, ◌++◌, Option, Some, None, flat_map}
use Rattle.std.specs.declared.alloc.Global.{Global}
use Rattle.std.specs.declared.vec.Vec.{Vec}
use Rattle.calculus.specs.declared.plain.TermRest.{TermRest}
use Rattle.calculus.specs.declared.plain.TermRest.TheVariants as rests
use Rattle.calculus.specs.Tree.{Tree}
use Rattle.calculus.specs.Matching.{Bindings, Choice, first_of_all, is_empty, rest_match}

-- these are the bindings of the first of these matches; there is none where there is no match
abbrev pub IsFirst : List Bindings → Option (Vec Tree Global) → Type 0
IsFirst bs None = first_of_all bs ≡ None
IsFirst bs (Some v) = first_of_all bs ≡ Some v.items

-- the first way whose targets that are left pass a test
abbrev pub first_way : (List Tree → Bool) → List Choice → Option Choice
first_way f [] = None
first_way f (w ∷ ws) = cond (f w.1) (Some w) (first_way f ws)

-- whether what is left of the members of a set or map may be left
abbrev pub may_rest : TermRest → List Tree → Bool
may_rest rests.No ts = is_empty ts
may_rest rests.Var ts = true
may_rest rests.Wild ts = true

-- the first of these ways in which members of a set or map take targets, with what they and the remainder bind
pub record MemberWay (r : TermRest) (made : List Tree → Tree) (ws : List Choice) (v : Bindings) : Type 0 where
  pub bs : List Bindings
  pub left : List Tree
  pub x : Bindings
  pub first : first_way (may_rest r) ws ≡ Some (bs, left)
  pub last : first_of_all (rest_match r made left) ≡ Some x
  pub is : v ≡ flat_map (λ b. b) bs ++ x

-- the first way in which the members of a set or map take targets, or none where there is none
abbrev pub IsFirstMembers : TermRest → (List Tree → Tree) → List Choice → Option (Vec Tree Global) → Type 0
IsFirstMembers r made ws None = first_way (may_rest r) ws ≡ None
IsFirstMembers r made ws (Some v) = MemberWay r made ws v.items
