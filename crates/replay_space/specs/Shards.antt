-- What a shard of a replay holds.
use Rattle.std.specs.Prelude.{◌≡◌, ℕ, Bool, false, ◌||◌, eqb, List, [], ◌∷◌, filter, IsPermutation}
use Rattle.calculus.specs.Tree.{Tree}
use Rattle.calculus.specs.Rows.{Row, channels, stdout, stdout_ack}
use Rattle.calculus.specs.Steps.{Bag}
use Rattle.calculus.specs.Storing.{shard}
use Rattle.racing_replays.specs.Replaying.{DoneStep}
use Rattle.replay_space.specs.Kept.{SeenRow, bare, Throughout, IsSeen}

-- whether one of these channels has this shard
abbrev pub has_shard : ℕ → List Tree → Bool
has_shard k [] = false
has_shard k (c ∷ cs) = eqb k (shard c) || has_shard k cs

-- whether a row is in this shard: a datum in that of its channel, and a receiver in those of all its channels
abbrev pub is_in_shard : ℕ → Row → Bool
is_in_shard k r = has_shard k (channels r.part)

-- a shard: its number, what is kept of the rows in it, and of the built-in receivers
pub record ShardOfReplay : Type 0 where
  pub number : ℕ
  pub rows : List SeenRow
  pub built : List SeenRow

-- The shard of this number after these done steps, where these rows have arrived: the rows in it, in any order, and the built-in receivers in it; and what is kept of each is right.
pub record IsShardAfter (b : Bag) (ds : List DoneStep) (arrived : List Row) (x : ShardOfReplay) : Type 0 where
  pub rows : IsPermutation (filter (is_in_shard x.number) arrived) (bare x.rows)
  pub built : bare x.built ≡ filter (is_in_shard x.number) (stdout ∷ stdout_ack ∷ [])
  pub kept : Throughout (IsSeen b ds) x.rows
  pub built_kept : Throughout (IsSeen b ds) x.built
