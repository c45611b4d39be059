-- The shards of a store.
use Rattle.std.specs.Prelude.{◌≡◌, ◌<◌, ℕ, List, map as each, Some, slice_get, IsSome}
use Rattle.calculus.specs.Rows.{Row}
use Rattle.events.specs.Shards.{IsProjection}
use Rattle.hub_scenes.specs.Spaces.{bare, Part}
use Rattle.replay_slots.specs.Hands.{InHand, shard_at, IsOpened}

-- all 64 shards are in hand
abbrev pub AreAll : InHand → Type 0
AreAll hand = (k : ℕ) → k < 64 → IsSome (shard_at hand k)

-- the shards with numbers below this one are in hand, and are those of these rows before the first entry of a replay
abbrev pub AreOpenedBelow : ℕ → List Row → InHand → Type 0
AreOpenedBelow n rows hand = (k : ℕ) → k < n → (x : Part) × ((shard_at hand k ≡ Some x) × IsOpened rows k x)

-- all 64 are
abbrev pub AreOpened : List Row → InHand → Type 0
AreOpened rows hand = AreOpenedBelow 64 rows hand

-- each shard is that of its number of these rows before the first entry of a replay
abbrev pub AreOpenedShards : List Row → List Part → Type 0
AreOpenedShards rows xs = (k : ℕ) (x : Part) → slice_get xs k ≡ Some x → IsOpened rows k x

-- each shard has the rows of a store that stand in the shard of its number, in some order
abbrev pub AreShardsOf : List Row → List Part → Type 0
AreShardsOf store xs = (k : ℕ) (x : Part) → slice_get xs k ≡ Some x → IsProjection store k (bare x.rows)

-- the rows of each of these shards
abbrev pub bare_shards : List Part → List (List Row)
bare_shards xs = each (λ x. bare x.rows) xs
