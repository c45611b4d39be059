-- What the calls answer: the first of all matches, as trees.
use Rattle.std.specs.Prelude.{◌≡◌, Bool, true, cond, ◌||◌, ◌&&◌, List, [], ◌∷◌, Option, Some, None, map as each}
use Rattle.calculus.specs.Tree.{Tree}
use Rattle.calculus.specs.Shape.{process}
use Rattle.calculus.specs.Matching.{Bindings, Member, Choice, piece, some_match, has_wide, is_empty}
use Rattle.rho_term.specs.Parts.{pat_part_tree, pair_tree}
use Rattle.rho_term.specs.declared.term.PatPart.{PatPart}
use Rattle.match_targets.specs.Found.{first_way}
use Rattle.spatial_match.specs.declared.split.Split.{Split}
use Rattle.spatial_match.specs.Search.{woven, IsWhole, WideIs, no_wide}

-- what is tried for a tree of a pattern
abbrev pub member : Tree → Member
member p = (piece p).whole

-- all matches of a tree of a pattern against a tree
abbrev pub found : Tree → Tree → List Bindings
found p t = (member p).tries t

-- the parts of a pattern, as they are tried
abbrev pub tried : List PatPart → List Member
tried ps = each (λ p. member (pat_part_tree p)) ps

-- the patterns in a row, as they are tried
abbrev pub tried_pats : List Tree → List Member
tried_pats ps = each member ps

-- the pairs of a map pattern, as they are tried
abbrev pub tried_pairs : List (Tree × Tree) → List Member
tried_pairs ps = each (λ p. member (pair_tree p)) ps

-- whether each wide member takes a tree
abbrev pub wides_take : List Member → Tree → Bool
wides_take [] t = true
wides_take (m ∷ ms) t = cond m.wide (some_match (m.tries t)) true && wides_take ms t

-- whether what is left may be left: the wide members take it, or there is none and nothing is left
abbrev pub may_leave : List Member → List Tree → Bool
may_leave ms ts = (has_wide ms || is_empty ts) && wides_take ms (process ts)

-- the first of these ways in which the later ones of a pattern's parts take targets, with what is bound
pub record Way (all later : List Member) (ws : List Choice) (s : Split) : Type 0 where
  pub bs : List Bindings
  pub left : List Tree
  pub w : Bindings
  pub first : first_way (may_leave all) ws ≡ Some (bs, left)
  pub whole : IsWhole later bs
  pub wide : WideIs all (process left) w
  pub waits : no_wide later ≡ true → s.wide.items ≡ w
  pub is : s.rest.items ≡ woven later bs w

-- the first such way, or none where there is none
abbrev pub IsFirstWay : List Member → List Member → List Choice → Option Split → Type 0
IsFirstWay all later ws None = first_way (may_leave all) ws ≡ None
IsFirstWay all later ws (Some s) = Way all later ws s
