-- What a worker shows of an entry before it draws it, and how the shards in hand are carried over it.
use Rattle.std.specs.Prelude.{◌≡◌, ℕ, true, List, [], ◌∷◌, ◌++◌, Option, Some, None, is_some}
use Rattle.calculus.specs.Rows.{Row}
use Rattle.calculus.specs.Runs.{Deploy, Work}
use Rattle.hub_rule.specs.Meaning.{Passes, AllFollow}
use Rattle.hub_rule.specs.Rule.{Carries}
use Rattle.events.specs.Entries.{steps_of}
use Rattle.events.specs.Allowed.{IdsTell, rows_at_hand}
use Rattle.events.specs.Hands.{shows}
use Rattle.shard_tables.specs.Hands.{AreInHand}
use Rattle.hub_scenes.specs.Plays.{entries_of, IsPriced}
use Rattle.hub_scenes.specs.PlayScene.{IsShownHere}
use Rattle.play_hub.specs.declared.entry.PlayEntry.{PlayEntry}
use Rattle.play_hub.specs.Values.{entry_of, hub_meaning}
use Rattle.play_hub.specs.Endings.{play_of}

module _ {X : Type 0} (rows : X → List Row) where
  module _ (in_hand : ℕ → Option X) where
    -- What a worker shows: these are the rows in hand, in any order and as often as may be; all shards that they show for the operation are in hand and touched; what the
    -- entry says of its step is so with them, after the steps that were drawn on the operation since it was taken, if ids tell the rows at hand; and it is priced.
    pub record ShowsEntry (deploy : Deploy) (all : List Row) (took : List PlayEntry) (e : PlayEntry) : Type 0 where
      pub are : AreInHand rows in_hand all
      pub held : (k : ℕ) → shows all (entry_of e).entry.operation k ≡ true → is_some (in_hand k) ≡ true
      pub touches : (k : ℕ) → shows all (entry_of e).entry.operation k ≡ true → (entry_of e).touched k ≡ true
      pub shown : IdsTell (rows_at_hand all (entry_of e).entry.operation) → IsShownHere deploy all (steps_of (entries_of (play_of took))) (entry_of e).entry.operation (entry_of e).entry.making
      pub priced : IsPriced deploy (entry_of e)

  -- what a worker shows is what a draw asks for
  abbrev pub DrawsAreTold : Type 0
  DrawsAreTold = (deploy : Deploy) (source : Work) (in_hand : ℕ → Option X) (since : List PlayEntry) (held : List (ℕ × X)) (all : List Row) (took : List PlayEntry) (e : PlayEntry)
      → Carries (hub_meaning deploy source rows) since held in_hand → ShowsEntry in_hand deploy all took e
      → (before : List (ℕ × X)) × AllFollow (hub_meaning deploy source rows) since held before × (hub_meaning deploy source rows).tells before took e

  -- each shard in hand is as the entry makes it, and no other is in hand
  pub record IsChangedBy (deploy : Deploy) (source : Work) (e : PlayEntry) (old new : ℕ → Option X) : Type 0 where
    pub here : (k : ℕ) (x : X) → old k ≡ Some x → (y : X) × (new k ≡ Some y) × Passes (hub_meaning deploy source rows) ((entry_of e).touched k) e k x y
    pub absent : (k : ℕ) → old k ≡ None → new k ≡ None

  -- then the shards in hand are carried over the entry
  abbrev pub DrawsCarry : Type 0
  DrawsCarry = (deploy : Deploy) (source : Work) (old new : ℕ → Option X) (since : List PlayEntry) (held : List (ℕ × X)) (e : PlayEntry)
      → Carries (hub_meaning deploy source rows) since held old → IsChangedBy deploy source e old new → Carries (hub_meaning deploy source rows) (since ++ e ∷ []) held new
