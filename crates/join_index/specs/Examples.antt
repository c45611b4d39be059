-- Examples of groups.
use Rattle.std.specs.Prelude.{◌≡◌, ℕ, false, [], ◌∷◌, filter}
use Rattle.calculus.specs.Examples.{num}
use Rattle.join_index.specs.Groups.{Channels, firsts, but_last, holds, stands}
use Rattle.join_index.specs.Index.{tallies}

-- the group of one channel, and that of two
abbrev pub one : ℕ → Channels
one n = num n ∷ []

abbrev pub two : ℕ → ℕ → Channels
two m n = num m ∷ num n ∷ []

-- lists of groups
pub record GroupExamples : Type 0 where
  -- two receives on one channel are one group
  pub each_once : filter (holds (num 1)) (firsts (one 1 ∷ one 1 ∷ [])) ≡ one 1 ∷ []
  -- groups keep the order in which they first came
  pub in_order : filter (holds (num 1)) (firsts (two 1 2 ∷ one 2 ∷ one 1 ∷ two 1 2 ∷ [])) ≡ two 1 2 ∷ one 1 ∷ []
  -- of equal groups the last goes
  pub last_goes : but_last (one 1) (one 1 ∷ one 2 ∷ one 1 ∷ []) ≡ one 1 ∷ one 2 ∷ []
  -- a group that is not there
  pub none_goes : but_last (one 3) (one 1 ∷ one 2 ∷ []) ≡ one 1 ∷ one 2 ∷ []
  -- groups of other channels, and of more
  pub other_channels : stands (one 1) (one 2 ∷ two 1 2 ∷ []) ≡ false
  -- how often they stand
  pub counted : tallies (one 1 ∷ one 2 ∷ one 1 ∷ []) ≡ (one 1, 2) ∷ (one 2, 1) ∷ []
