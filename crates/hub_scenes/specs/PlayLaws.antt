-- The laws of the scene of a play, and what the entries of a hub come to. Each law stands in the contract of a public function that does nothing.
use Rattle.std.specs.Prelude.{◌≡◌, ◌<◌, ◌⊎◌, ℕ, ◌+◌, true, List, [], map as each, slice_get, Some}
use Rattle.calculus.specs.Tree.{Tree}
use Rattle.calculus.specs.Outcome.{Prices}
use Rattle.calculus.specs.Rows.{Row}
use Rattle.calculus.specs.Steps.{differ}
use Rattle.calculus.specs.Runs.{deploy_of, Deploy, Work, work_price, IsRun}
use Rattle.events.specs.Premises.{FitsInTexts, Collides}
use Rattle.hub_rule.specs.Counts.{total}
use Rattle.hub_rule.specs.Meaning.{Lawful, Ran}
use Rattle.hub_rule.specs.Stops.{FaultOf}
use Rattle.events.specs.Entries.{prices_of, steps_of}
use Rattle.events.specs.Allowed.{AreAllowed, ComesTo, ShowsAnId}
use Rattle.events.specs.Shards.{IsProjection}
use Rattle.hub_scenes.specs.Plays.{TouchingEntry, entries_of, space_after_all, IsPlay}
use Rattle.hub_scenes.specs.PlayScene.{play_meaning}

-- the scene of a play is lawful, whatever the deploy and the work that its source comes to
abbrev pub PlayIsLawful : Type 0
PlayIsLawful = (deploy : Deploy) (source : Work) → Lawful (play_meaning deploy source)

-- entries that might be drawn are allowed
abbrev pub PlaysAreAllowed : Type 0
PlaysAreAllowed = (deploy : Deploy) (source : Work) (es : List TouchingEntry) → IsPlay deploy source es → AreAllowed deploy source (entries_of es) (space_after_all deploy source es)

-- a hub over the scene ran: it opened with these shards and operations and drew these entries; these shards closed, and these operations were left on desks and in hands
abbrev pub RanPlay : Deploy → Work → List (List Row) → List Row → List TouchingEntry → List (List Row) → List Row → List (ℕ × Row) → Type 0
RanPlay deploy source = Ran (play_meaning deploy source)

-- what each entry costs
abbrev pub charges_of : Deploy → Work → List TouchingEntry → ℕ
charges_of deploy source es = total (play_meaning deploy source).price es

-- whatever the digests are: the entries of a hub might be drawn one after another, and their prices add up to those of their steps
abbrev pub HubsDrawPlays : Type 0
HubsDrawPlays = (deploy : Deploy) (source : Work) (opened : List (List Row)) (works : List Row) (es : List TouchingEntry) (closed : List (List Row)) (left : List Row) (hands : List (ℕ × Row))
    → RanPlay deploy source opened works es closed left hands → IsPlay deploy source es × (charges_of deploy source es ≡ prices_of (entries_of es))

-- why a hub came to an end: nothing is left on desks or in hands; one of its entries is a fault; or with the source's work they cost more than the limit
pub data HasEnded (deploy : Deploy) (source : Work) (es : List TouchingEntry) (left : List Row) (hands : List (ℕ × Row)) : Type 0 where
  all_done : left ≡ [] → hands ≡ [] → HasEnded deploy source es left hands
  by_fault : FaultOf (play_meaning deploy source).faults es → HasEnded deploy source es left hands
  by_limit : deploy.limit < work_price deploy.limit source + charges_of deploy source es → HasEnded deploy source es left hands

-- What the entries of a hub come to: they come to their space; the closed shards are projections of its rows; nothing is pending there where nothing is left on desks or in
-- hands; and once the hub has ended, they are a run.
pub record PlaysRun (deploy : Deploy) (source : Work) (es : List TouchingEntry) (closed : List (List Row)) (left : List Row) (hands : List (ℕ × Row)) : Type 0 where
  pub comes : ComesTo deploy source (entries_of es) (space_after_all deploy source es)
  pub shards : (k : ℕ) (rows : List Row) → slice_get closed k ≡ Some rows → IsProjection (space_after_all deploy source es).store k rows
  pub pending : left ≡ [] → hands ≡ [] → (space_after_all deploy source es).pending ≡ []
  pub ends : HasEnded deploy source es left hands → IsRun deploy (steps_of (entries_of es)) comes.state

-- from the empty state, with no premise on digests: the entries of a hub come to this, or texts collide
abbrev pub HubsPlayOrCollide : Type 0
HubsPlayOrCollide = (p : Prices) (cap : ℕ) (t : Tree) (digest : List ℕ) (source : Work) (opened : List (List Row)) (works : List Row) (es : List TouchingEntry) (closed : List (List Row)) (left : List Row) (hands : List (ℕ × Row))
    → RanPlay (deploy_of p cap [] t digest) source opened works es closed left hands → FitsInTexts (deploy_of p cap [] t digest) (steps_of (entries_of es))
    → PlaysRun (deploy_of p cap [] t digest) source es closed left hands ⊎ Collides (deploy_of p cap [] t digest) (steps_of (entries_of es))

-- from a checkpoint of rows whose ids differ: they come to this, or a row's id is a built-in receiver's or made again, or texts collide
abbrev pub HubsPlayOrShowAnId : Type 0
HubsPlayOrShowAnId = (deploy : Deploy) (source : Work) (opened : List (List Row)) (works : List Row) (es : List TouchingEntry) (closed : List (List Row)) (left : List Row) (hands : List (ℕ × Row))
    → RanPlay deploy source opened works es closed left hands → FitsInTexts deploy (steps_of (entries_of es)) → differ (each (λ r. r.id) deploy.rows) ≡ true
    → PlaysRun deploy source es closed left hands ⊎ (ShowsAnId deploy (steps_of (entries_of es)) ⊎ Collides deploy (steps_of (entries_of es)))
