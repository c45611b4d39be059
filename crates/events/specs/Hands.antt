-- What the shards in hand show of an operation.
use Rattle.std.specs.Prelude.{◌≡◌, ℕ, Bool, true, ◌&&◌, ◌||◌, eqb, List, [], ◌∷◌, flat_map, is_some, ⊤}
use Rattle.std.specs.List.{list_any}
use Rattle.calculus.specs.Tree.{Tree}
use Rattle.calculus.specs.Congruence.{congruent}
use Rattle.calculus.specs.Rows.{Row, channels}
use Rattle.calculus.specs.Steps.{as_receiver}
use Rattle.events.specs.Found.{Among}
use Rattle.events.specs.Allowed.{AreAmong}
use Rattle.events.specs.Shards.{stands_in, IsProjection}

-- whether a channel is congruent to one of these
abbrev pub is_one_channel : Tree → List Tree → Bool
is_one_channel c ds = list_any (congruent c) ds

-- whether a row is a receive with a bind on a channel of an operation
abbrev pub hears : Row → Row → Bool
hears r o = is_some (as_receiver r.part) && list_any (λ c. is_one_channel c (channels r.part)) (channels o.part)

-- whether the shard k is one that rows show for an operation: a shard of its own channels, or one of all channels of a receiver among these rows that hears it
abbrev pub shows : List Row → Row → ℕ → Bool
shows rows o k = stands_in k o || list_any (λ r. hears r o && stands_in k r) rows

-- these rows, of the shards that are held, are stored, and among them is each stored row that stands in a held shard
pub record HoldShards (store : List Row) (held : ℕ → Bool) (rows : List Row) : Type 0 where
  pub stored : AreAmong rows store
  pub whole : (r : Row) (k : ℕ) → Among r store → held k ≡ true → stands_in k r ≡ true → Among r rows

-- all shards that the rows in hand show for an operation are held
abbrev pub HoldShown : (ℕ → Bool) → List Row → Row → Type 0
HoldShown held rows o = (k : ℕ) → shows rows o k ≡ true → held k ≡ true

-- the rows of numbered shards in hand; a receive on channels of two of them is there twice
abbrev pub rows_of_all : List (ℕ × List Row) → List Row
rows_of_all shards = flat_map (λ s. s.1) shards

-- whether the shard k is in hand
abbrev pub is_in_hand : List (ℕ × List Row) → ℕ → Bool
is_in_hand shards k = list_any (λ s. eqb k s.0) shards

-- each of these is the projection of a store to its number
abbrev pub AreProjections : List Row → List (ℕ × List Row) → Type 0
AreProjections store [] = ⊤
AreProjections store (s ∷ ss) = IsProjection store s.0 s.1 × AreProjections store ss
