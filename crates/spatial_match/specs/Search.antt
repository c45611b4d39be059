-- A search among the ways in which members choose targets.
use Rattle.std.specs.Prelude.{◌≡◌, ℕ, zero, suc, ◌+◌, Bool, true, false, cond, List, [], ◌∷◌, ◌++◌, ⊤, Some, None, map as each, flat_map, slice_index_or}
use Rattle.calculus.specs.Tree.{Tree, par}
use Rattle.calculus.specs.Shape.{leaf}
use Rattle.free_places.specs.Places.{has, left_from}
use Rattle.match_targets.specs.Found.{first_way}
use Rattle.calculus.specs.Matching.{Bindings, Member, Choice, ways, first_of_all}

-- the ways in which a thin member takes the one target, and members after it some of the others
abbrev pub trial : Member → List Member → Tree × List Tree → List Choice
trial m ms c = flat_map (λ b. each (λ w. (b ∷ w.0, w.1)) (ways ms c.1)) (m.tries c.0)

-- those in which it takes target number j, unless that one is taken
abbrev pub at_place : Member → List Member → List ℕ → List Tree → ℕ → List Choice
at_place m ms us ts j = cond (has us j) [] (trial m ms (slice_index_or ts j (leaf par), left_from 0 (us ++ j ∷ []) ts))

-- no way in which the member takes the target before this one passes a test
abbrev pub FailedBefore : (List Tree → Bool) → Member → List Member → List ℕ → List Tree → ℕ → Type 0
FailedBefore f m ms us ts j = (k : ℕ) → j ≡ k + 1 → first_way f (at_place m ms us ts k) ≡ None

-- member number i
abbrev pub member_at : ℕ → List Member → Member
member_at i [] = record { wide = false; tries = λ t. [] }
member_at zero (m ∷ ms) = m
member_at (suc i) (m ∷ ms) = member_at i ms

-- what the members bind, each wide one what is given for it
abbrev pub woven : List Member → List Bindings → Bindings → Bindings
woven [] bs w = []
woven (m ∷ ms) [] w = []
woven (m ∷ ms) (b ∷ bs) w = cond m.wide w b ++ woven ms bs w

-- there are bindings for each member
abbrev pub IsWhole : List Member → List Bindings → Type 0
IsWhole [] bs = ⊤
IsWhole (m ∷ ms) [] = ⊥
IsWhole (m ∷ ms) (b ∷ bs) = IsWhole ms bs

-- the first match of each wide member against a tree binds this
abbrev pub WideIs : List Member → Tree → Bindings → Type 0
WideIs [] t w = ⊤
WideIs (m ∷ ms) t w = (m.wide ≡ true → first_of_all (m.tries t) ≡ Some w) × WideIs ms t w

-- whether none of these is wide
abbrev pub no_wide : List Member → Bool
no_wide [] = true
no_wide (m ∷ ms) = cond m.wide false (no_wide ms)

-- no wide member stands before another one
abbrev pub AtMostOne : List Member → Type 0
AtMostOne [] = ⊤
AtMostOne (m ∷ ms) = (m.wide ≡ true → no_wide ms ≡ true) × AtMostOne ms
