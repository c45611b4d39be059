-- What the entries of a hub over these values come to. Each law stands in the contract of a public function that does nothing.
use Rattle.std.specs.Prelude.{◌≡◌, ◌<◌, ◌⊎◌, ℕ, ◌+◌, true, List, [], map as each, All}
use Rattle.calculus.specs.Rows.{Row}
use Rattle.calculus.specs.Steps.{differ}
use Rattle.calculus.specs.Runs.{Deploy, Work, work_price}
use Rattle.events.specs.Premises.{FitsInTexts, Collides}
use Rattle.hub_rule.specs.Counts.{total}
use Rattle.hub_rule.specs.Meaning.{Ran}
use Rattle.hub_rule.specs.Stops.{FaultOf}
use Rattle.events.specs.Entries.{prices_of, steps_of}
use Rattle.events.specs.Allowed.{ShowsAnId}
use Rattle.events.specs.EventLaws.{Begins}
use Rattle.hub_scenes.specs.Plays.{TouchingEntry, entries_of, IsPriced, IsPlay}
use Rattle.hub_scenes.specs.PlayLaws.{HasEnded, PlaysRun}
use Rattle.play_hub.specs.declared.entry.PlayEntry.{PlayEntry}
use Rattle.play_hub.specs.Values.{entry_of, hub_meaning}

-- what entries stand for
abbrev pub play_of : List PlayEntry → List TouchingEntry
play_of es = each entry_of es

module _ (deploy : Deploy) (source : Work) {X : Type 0} (rows : X → List Row) (es : List PlayEntry) (closed : List X) (left : List Row) (hands : List (ℕ × Row)) where
  -- where digests fit in texts and the ids of the checkpoint's rows differ: they are those of a run once the hub has ended, or a row's id is a built-in receiver's or made again, or texts collide
  abbrev pub ComesToAPlay : Type 0
  ComesToAPlay =
      FitsInTexts deploy (steps_of (entries_of (play_of es))) → differ (each (λ r. r.id) deploy.rows) ≡ true
      → PlaysRun deploy source (play_of es) (each rows closed) left hands ⊎ (ShowsAnId deploy (steps_of (entries_of (play_of es))) ⊎ Collides deploy (steps_of (entries_of (play_of es))))

  -- from the empty state no id is shown
  abbrev pub ComesToAPlayFromNothing : Type 0
  ComesToAPlayFromNothing =
      deploy.rows ≡ [] → FitsInTexts deploy (steps_of (entries_of (play_of es))) → PlaysRun deploy source (play_of es) (each rows closed) left hands ⊎ Collides deploy (steps_of (entries_of (play_of es)))

  -- what is so in each case: each entry is priced, and they cost what their steps do
  abbrev pub ArePriced : Type 0
  ArePriced = All (λ e. IsPriced deploy (entry_of e)) es × (total (hub_meaning deploy source rows).price es ≡ prices_of (entries_of (play_of es)))

module _ {X : Type 0} (rows : X → List Row) where
  -- the entries of a hub that ran are priced, and where the deploy begins so they might be drawn one after another and come to a play
  abbrev pub HubsComeToPlays : Type 0
  HubsComeToPlays = (deploy : Deploy) (source : Work) (opened : List X) (works : List Row) (es : List PlayEntry) (closed : List X) (left : List Row) (hands : List (ℕ × Row))
      → Ran (hub_meaning deploy source rows) opened works es closed left hands
      → ArePriced deploy source rows es closed left hands
      × (Begins deploy source → IsPlay deploy source (play_of es) × ComesToAPlay deploy source rows es closed left hands × ComesToAPlayFromNothing deploy source rows es closed left hands)

  -- a fault among the entries, or prices above the limit, end the hub
  abbrev pub CausesEndHubs : Type 0
  CausesEndHubs = (deploy : Deploy) (source : Work) (es : List PlayEntry) (left : List Row) (hands : List (ℕ × Row))
      → (FaultOf (hub_meaning deploy source rows).faults es → HasEnded deploy source (play_of es) left hands)
      × (deploy.limit < work_price deploy.limit source + total (hub_meaning deploy source rows).price es → HasEnded deploy source (play_of es) left hands)
