-- The scene of a play. Its store is the list of entries drawn so far; the shards are projections of the rows that are then stored.
use Rattle.std.specs.Prelude.{◌≡◌, ◌≤◌, ◌⊎◌, ℕ, true, false, List, [], ◌∷◌, ◌++◌, map as each, Option, Some, None}
use Rattle.calculus.specs.Log.{Step}
use Rattle.calculus.specs.Rows.{Row}
use Rattle.calculus.specs.Unfolding.{rows_of}
use Rattle.calculus.specs.Steps.{differ}
use Rattle.calculus.specs.Runs.{Deploy, Work, work_products}
use Rattle.events.specs.Events.{AreFresh}
use Rattle.events.specs.Found.{is_lasting}
use Rattle.events.specs.EventLaws.{Begins}
use Rattle.hub_rule.specs.Meaning.{Meaning}
use Rattle.events.specs.Entries.{Making, offers_in, price_in, steps_of}
use Rattle.events.specs.Allowed.{IdsTell, rows_at_hand, MakesStep}
use Rattle.events.specs.Shards.{IsProjection, Becomes}
use Rattle.events.specs.Hands.{shows, HoldShown, rows_of_all, is_in_hand}
use Rattle.events.specs.ShardLaws.{IsShownBy}
use Rattle.hub_scenes.specs.Plays.{TouchingEntry, entries_of, most_price, capped_price, ends_work, has_fault, MayBeDrawn, space_after_all, IsPlay}

-- an operation makes a step that takes a row away with these rows, of which it says that it was not made before
abbrev pub IsFirst : Deploy → List Row → Row → Option Making → Type 0
IsFirst deploy rows o None = ⊥
IsFirst deploy rows o (Some a) = (w : Work) × (k : MakesStep deploy rows [] o a w) × (is_lasting k.found ≡ false)

-- what an entry says of its step is so with these rows after these steps of its operation, or it is a step that takes a row away, which was not made before
abbrev pub IsShownHere : Deploy → List Row → List Step → Row → Option Making → Type 0
IsShownHere deploy rows made o x = IsShownBy deploy rows made o x ⊎ IsFirst deploy rows o x

-- Shards in hand, with the entries drawn on an operation since it was taken, tell that an entry may be drawn: all shards that they show for the operation are in hand and
-- touched; what the entry says of its step is so with their rows, after the steps of those entries, if ids tell the rows at hand; and its price is within the greatest.
pub record TellsEntry (deploy : Deploy) (shards : List (ℕ × List Row)) (took : List TouchingEntry) (e : TouchingEntry) : Type 0 where
  pub held : HoldShown (is_in_hand shards) (rows_of_all shards) e.entry.operation
  pub touches : (k : ℕ) → shows (rows_of_all shards) e.entry.operation k ≡ true → e.touched k ≡ true
  pub shown : IdsTell (rows_at_hand (rows_of_all shards) e.entry.operation) → IsShownHere deploy (rows_of_all shards) (steps_of (entries_of took)) e.entry.operation e.entry.making
  pub cheap : price_in e.entry.making ≤ most_price

-- what a table makes of the rows of the shard k where an operation is stored, or makes a step, if no two of these and the operation have one id
abbrev pub MayBecome : ℕ → Row → Option Making → List Row → List Row → Type 0
MayBecome k o x rows later = differ (each (λ r. r.id) (o ∷ rows)) ≡ true → Becomes k o x rows later

module _ (deploy : Deploy) (source : Work) where
  -- These are the rows of the shard k after the entries, if each of these might be drawn and digests so far are fresh.
  abbrev pub Projects : List TouchingEntry → ℕ → List Row → Type 0
  Projects es k rows = IsPlay deploy source es → AreFresh deploy (space_after_all deploy source es).made → IsProjection (space_after_all deploy source es).store k rows

  -- a play begins with no entries, and with the operations that the source offers
  abbrev pub Opens : List TouchingEntry → List Row → Type 0
  Opens es works = (es ≡ []) × Begins deploy source × (works ≡ rows_of (work_products source))

  -- the scene of the play of a deploy whose source comes to this work
  abbrev pub play_meaning : Meaning (List TouchingEntry) TouchingEntry (List Row) Row
  play_meaning = record {
    projects = Projects;
    opens = Opens;
    after = λ es e. es ++ e ∷ [];
    allows = λ es e. MayBeDrawn deploy (space_after_all deploy source es) e;
    takes = λ e. e.entry.operation;
    ends = λ e. ends_work e.entry.operation e.entry.making;
    offers = λ e. offers_in e.entry.making;
    touched = λ e k. e.touched k;
    effect = λ e k rows later. MayBecome k e.entry.operation e.entry.making rows later;
    price = λ e. capped_price e.entry.making;
    faults = λ e. has_fault e.entry.making;
    tells = TellsEntry deploy;
  }
