-- Examples of matches that are alike.
use Rattle.std.specs.Prelude.{◌≡◌, List, [], ◌∷◌}
use Rattle.calculus.specs.declared.plain.TermRest.TheVariants as rests
use Rattle.calculus.specs.Tree.{row, rest, same, list_pattern, Tree}
use Rattle.calculus.specs.Shape.{leaf, one, two, many}
use Rattle.calculus.specs.Examples.{num, list_of, set_of, thin, a_var, one_two, two_one}
use Rattle.calculus.specs.Matching.{Bindings, all_matches}
use Rattle.process_laws.specs.MatchingLaws.{AreAlike}

-- `[={P}, x]`
abbrev pub same_and_more : Tree → Tree
same_and_more t = thin (two list_pattern (many row (thin (one same t) ∷ a_var ∷ [])) (leaf (rest rests.No)))

-- `[P, Set(m, n)]`
abbrev pub beside_set : Tree → Tree → Tree → Tree
beside_set t a b = list_of (t ∷ set_of (a ∷ b ∷ []) ∷ [])

-- matches that are not alike
abbrev pub AreUnlike : List Bindings → List Bindings → Type 0
AreUnlike bs cs = AreAlike bs cs → ⊥

-- which matches are alike
pub record AlikeExamples : Type 0 where
  -- `[={1 | 2}, x]` against `[1 | 2, Set(1, 2)]`, and `[={2 | 1}, x]` against `[2 | 1, Set(2, 1)]`
  pub patterns_and_targets_vary : AreAlike (all_matches (same_and_more one_two) (beside_set one_two (num 1) (num 2))) (all_matches (same_and_more two_one) (beside_set two_one (num 2) (num 1)))
  -- the second of these binds `Set(2, 1)`
  pub bound_as_it_stands : all_matches (same_and_more two_one) (beside_set two_one (num 2) (num 1)) ≡ (set_of (num 2 ∷ num 1 ∷ []) ∷ []) ∷ []
  -- matches in another order
  pub order_counts : AreUnlike ((num 1 ∷ []) ∷ (num 2 ∷ []) ∷ []) ((num 2 ∷ []) ∷ (num 1 ∷ []) ∷ [])
  -- one match more
  pub number_counts : AreUnlike ((num 1 ∷ []) ∷ []) ((num 1 ∷ []) ∷ (num 1 ∷ []) ∷ [])
