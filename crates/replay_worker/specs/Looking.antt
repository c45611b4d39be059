-- What shards in hand show of a job, and what they become.
use Rattle.std.specs.Prelude.{◌≡◌, ◌<◌, ℕ, ◌-◌, ◌^◌, Bool, true, false, List, ◌∷◌, ◌++◌, length, map, Option, Some, None}
use Rattle.calculus.specs.Tree.{Tree}
use Rattle.calculus.specs.Log.{Step}
use Rattle.calculus.specs.Rows.{Row}
use Rattle.calculus.specs.Runs.{Deploy}
use Rattle.event_log.specs.View.{step_of}
use Rattle.racing_replays.specs.Counted.{names_id}
use Rattle.events.specs.Shards.{stands_in}
use Rattle.hub_scenes.specs.Spaces.{SeenRow, Part}
use Rattle.hub_scenes.specs.Entries.{Deed, PartBecomes}
use Rattle.hub_scenes.specs.Showing.{IsFirstUse}
use Rattle.replay_hub.specs.declared.deed.Coming.{Coming}
use Rattle.replay_hub.specs.declared.deed.Try.{Try}
use Rattle.replay_hub.specs.declared.deed.Made.{Made}
use Rattle.replay_hub.specs.declared.deed.Task.TheVariants.{Index}
use Rattle.replay_hub.specs.declared.deed.Did.TheVariants.{Done}
use Rattle.replay_hub.specs.Values.{has_bit, try_of, offers_of}
use Rattle.replay_hub.specs.Drawing.{IsInHand, ShowsDone, ShowsIdle}
use Rattle.replay_worker.specs.declared.tables.Arriving.{Arriving}
use Rattle.replay_worker.specs.declared.tables.Doing.{Doing}
use Rattle.replay_worker.specs.declared.tables.Looked.{Looked}
use Rattle.replay_worker.specs.declared.tables.Looked.TheVariants.{Idle, Wider, Fits}

-- what is known before a row arrives: the shards that it stands in, and the try of its first use
pub record IsArriving {R C : Type 0} (ss : List Step) (row : R → Row) (channel : C → Tree) (a : Coming R) (p : Arriving R C) : Type 0 where
  pub bits : (k : ℕ) → has_bit p.shards k ≡ stands_in k (row a.row)
  pub first : IsFirstUse ss (row a.row) (map (try_of row channel) p.next.value.items)
  pub tasks : p.tasks.items ≡ map (λ t. Index t) p.next.value.items
  pub few : length p.tasks.items < 2 ^ 57

module _ {S : Type 0} (part : S → Part) where
  -- what a deed, which touches the shard k or not, makes of it
  abbrev pub Becomes : Bool → Deed → ℕ → S → S → Type 0
  Becomes true d k x y = PartBecomes d k (part x) (part y)
  Becomes false d k x y = y ≡ x

  -- each shard in hand becomes what a deed makes of it that touches these, and none comes or leaves
  pub record AllBecome (touched : ℕ → Bool) (d : Deed) (old new : ℕ → Option S) : Type 0 where
    pub there : (k : ℕ) (x : S) → old k ≡ Some x → (y : S) × (new k ≡ Some y) × Becomes (touched k) d k x y
    pub absent : (k : ℕ) → old k ≡ None → new k ≡ None

-- a step of the log that is done has its place there
pub record IsAtItsPlace {R C : Type 0} (ss : List Step) (m : Made R C) : Type 0 where
  pub before : List Step
  pub after : List Step
  pub log : ss ≡ before ++ step_of m.made.value ∷ after
  pub place : length before ≡ m.step

-- no row in hand that a step names was counted too often to be counted once more
abbrev pub AreLow : {S : Type 0} → (S → Part) → (ℕ → Option S) → Step → Type 0
AreLow part in_hand s = (q : SeenRow) → IsInHand part in_hand q → names_id q.row.id s ≡ true → q.done < 2 ^ 32 - 1

module _ {R C S : Type 0} (deploy : Deploy) (ss : List Step) (row : R → Row) (channel : C → Tree) (part : S → Part) where
  -- a step may be done with the shards in hand: what is drawn, the ids of the rows that leave by it, and the jobs that it offers
  pub record IsDoing (in_hand : ℕ → Option S) (touched : ℕ → Bool) (t : Try C) (d : Doing R C) : Type 0 where
    pub shows : ShowsDone deploy ss row channel part in_hand touched d.made
    pub same_step : d.made.step ≡ t.step
    pub same_channel : d.made.channel.value ≡ t.channel
    pub gone : d.gone.items ≡ d.made.gone.value.items
    pub tasks : d.tasks.items ≡ offers_of (Done d.made)
    pub few : length d.tasks.items < 2 ^ 57
    pub low : AreLow part in_hand (step_of d.made.made.value)

  -- what the shards in hand, which have these bits, show of a try: it may not be done; a row in hand stands in a shard that is not in hand; or it may be done
  abbrev pub Shows : (ℕ → Option S) → (ℕ → Bool) → Try C → Looked R C → Type 0
  Shows in_hand touched t Idle = ShowsIdle part in_hand ss channel t
  Shows in_hand touched t (Wider n) = (r : SeenRow) × (k : ℕ) × IsInHand part in_hand r × ((j : ℕ) → has_bit n j ≡ stands_in j r.row) × (stands_in k r.row ≡ true) × (touched k ≡ false)
  Shows in_hand touched t (Fits d) = IsDoing in_hand touched t d
