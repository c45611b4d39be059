-- The shards that a worker has in hand.
use Rattle.std.specs.Prelude.{◌≡◌, ◌≤◌, ◌<◌, ⊤, ℕ, Bool, true, false, List, [], ◌∷◌, ◌++◌, map as each, filter, Option, Some, None, option_map, slice_index_or, IsPermutation}
use Rattle.calculus.specs.Rows.{Row}
use Rattle.hub_scenes.specs.Spaces.{SeenRow, Part, standing_row, seen_in}
use Rattle.hub_scenes.specs.Entries.{Deed, PartBecomes}
use Rattle.replay_rows.specs.Filing.{HasRoom}
use Rattle.replay_rows.specs.declared.kept.Kept.{Kept}
use Rattle.replay_space.specs.declared.seen.Seen.{Seen}
use Rattle.replay_rows.specs.Rows.{part_of, own_built, seen_row, filed_rows, AreFiled}

-- the shards in hand, by number: each of 64 is there or not
abbrev pub InHand : Type 0
InHand = List (Option Part)

-- the shard of a number, if it is in hand
abbrev pub shard_at : InHand → ℕ → Option Part
shard_at hand k = slice_index_or hand k None

-- the rows of a shard and the built-in receivers in it, if it is there
abbrev pub shown_at : Option Part → List SeenRow
shown_at None = []
shown_at (Some x) = x.rows ++ x.built

-- all that the shards in hand show
abbrev pub all_shown : InHand → List SeenRow
all_shown [] = []
all_shown (x ∷ xs) = shown_at x ++ all_shown xs

-- each shard in hand becomes what the deed makes of it; none comes or leaves
pub record AllBecome (d : Deed) (old new : InHand) : Type 0 where
  pub there : (k : ℕ) (x : Part) → shard_at old k ≡ Some x → (y : Part) × (shard_at new k ≡ Some y) × PartBecomes d k x y
  pub absent : (k : ℕ) → shard_at old k ≡ None → shard_at new k ≡ None

-- those that are touched become so, the others stay
pub record TouchedBecome (touched : ℕ → Bool) (d : Deed) (old new : InHand) : Type 0 where
  pub there : (k : ℕ) (x : Part) → shard_at old k ≡ Some x → touched k ≡ true → (y : Part) × (shard_at new k ≡ Some y) × PartBecomes d k x y
  pub others : (k : ℕ) → touched k ≡ false → shard_at new k ≡ shard_at old k
  pub absent : (k : ℕ) → shard_at old k ≡ None → shard_at new k ≡ None

-- the shard k of these rows before the first entry of a replay
pub record IsOpened (store : List Row) (k : ℕ) (x : Part) : Type 0 where
  pub number : x.number ≡ k
  pub rows : IsPermutation (filter (seen_in k) (each standing_row store)) x.rows
  pub built : x.built ≡ own_built k

-- shards as they are kept
abbrev pub Slot : Type 0
Slot = Option Kept

-- what they are seen as
abbrev pub parts_of : List Slot → InHand
parts_of slots = each (option_map part_of) slots

-- each row of a shard stands under its id
abbrev pub IsSlotFiled : Slot → Type 0
IsSlotFiled None = ⊤
IsSlotFiled (Some a) = AreFiled a.rows.entries

-- the same of all shards
abbrev pub AreSlotsFiled : List Slot → Type 0
AreSlotsFiled [] = ⊤
AreSlotsFiled (x ∷ xs) = IsSlotFiled x × AreSlotsFiled xs

-- a shard is there and has room for one more row with this id
abbrev pub HasRoomAt : List ℕ → Slot → Type 0
HasRoomAt x None = ⊥
HasRoomAt x (Some a) = HasRoom x a.rows.entries

-- a shard gains a row beside its others, and all else stays
pub record Gains (q : SeenRow) (a b : Kept) : Type 0 where
  pub number : b.number ≡ a.number
  pub rows : IsPermutation (filed_rows a.rows.entries ++ q ∷ []) (filed_rows b.rows.entries)
  pub filed : AreFiled a.rows.entries → AreFiled b.rows.entries
  pub built : each seen_row b.built.items ≡ each seen_row a.built.items

-- a shard that is there gains this row, if there is one
abbrev pub GainsRow : Option (Seen Row) → Slot → Slot → Type 0
GainsRow None x y = y ≡ x
GainsRow (Some s) None y = ⊥
GainsRow (Some s) (Some a) y = (b : Kept) × (y ≡ Some b) × Gains (seen_row s) a b

-- a shard that is there, with room made in it, gains this row
abbrev pub GainsSeen : Seen Row → Slot → Slot → Type 0
GainsSeen s x y = (mid : Slot) × (option_map part_of mid ≡ option_map part_of x) × GainsRow (Some s) mid y

-- no shard in hand has a number outside these
abbrev pub LieWithin : ℕ → ℕ → InHand → Type 0
LieWithin low high hand = (k : ℕ) → (low ≤ k → k < high → ⊥) → shard_at hand k ≡ None
