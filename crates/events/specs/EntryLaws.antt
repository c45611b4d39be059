-- What entries come to, and what shows that one is allowed. Each law stands in the contract of a public function that does nothing.
use Rattle.std.specs.Prelude.{◌≡◌, ◌≤◌, ◌⊎◌, ℕ, ◌+◌, ◌*◌, ◌/◌, true, false, List, [], ◌∷◌, ◌++◌, length, count_by, map as each, Option, Some, None, All, IsPermutation}
use Rattle.calculus.specs.declared.fault.FaultKind.{FaultKind}
use Rattle.calculus.specs.Tree.{Tree}
use Rattle.calculus.specs.Outcome.{Prices}
use Rattle.calculus.specs.Rows.{Row}
use Rattle.calculus.specs.Log.{Step}
use Rattle.calculus.specs.Steps.{Meeting, differ, same_meeting}
use Rattle.calculus.specs.Runs.{deploy_of, Deploy, Work}
use Rattle.events.specs.Events.{takes_part, first_ids, AreFresh}
use Rattle.events.specs.Found.{met, Among, AreAtHand, is_lasting, step_of}
use Rattle.events.specs.EventLaws.{Begins}
use Rattle.events.specs.Premises.{FitsInTexts, Collides}
use Rattle.events.specs.Entries.{Space, first_space, Making, Entry, offers_in, left_in, space_after, after, steps_in, steps_of, entries_on, line_in, lines_of, faults_in, faults_of, first_fault, verdict_or, prices_of, price_in, total_of}
use Rattle.events.specs.Allowed.{IsReached, AreAmong, MeetsNothing, MakesStep, IsAllowed, AreAllowed, ComesTo, ShowsAnId}

-- before the first entry
abbrev pub NoEntriesAreAllowed : Type 0
NoEntriesAreAllowed = (deploy : Deploy) (source : Work) → Begins deploy source → AreAllowed deploy source [] (first_space deploy source)

-- one more entry that is allowed after allowed entries
abbrev pub OneMoreIsAllowed : Type 0
OneMoreIsAllowed = (deploy : Deploy) (source : Work) (entries : List Entry) (space : Space) (e : Entry)
    → AreAllowed deploy source entries space → IsAllowed deploy space e → AreAllowed deploy source (entries ++ e ∷ []) (after space e)

-- the steps made and what was printed are told by the entries
abbrev pub EntriesTellTheirSteps : Type 0
EntriesTellTheirSteps = (deploy : Deploy) (source : Work) (entries : List Entry) (space : Space)
    → AreAllowed deploy source entries space → (space.made ≡ steps_of entries) × (space.output ≡ lines_of entries)

-- digests that are fresh after an entry are fresh before it
abbrev pub FreshDigestsWereFresh : Type 0
FreshDigestsWereFresh = (deploy : Deploy) (space : Space) (e : Entry) → AreFresh deploy (after space e).made → AreFresh deploy space.made

-- what one more entry adds to the sums and lists of entries
pub record AddsUp (entries : List Entry) (e : Entry) : Type 0 where
  pub steps : steps_of (entries ++ e ∷ []) ≡ steps_of entries ++ steps_in e.making
  pub prices : prices_of (entries ++ e ∷ []) ≡ prices_of entries + price_in e.making
  pub faults : faults_of (entries ++ e ∷ []) ≡ faults_of entries ++ faults_in e.making
  pub lines : lines_of (entries ++ e ∷ []) ≡ lines_of entries ++ line_in e.making
  pub own : (x : List ℕ) → entries_on x (entries ++ e ∷ []) ≡ entries_on x entries ++ entries_on x (e ∷ [])

-- it adds that always
abbrev pub OneMoreEntryAddsUp : Type 0
OneMoreEntryAddsUp = (entries : List Entry) (e : Entry) → AddsUp entries e

-- the first fault stands, whatever comes after it
abbrev pub FirstFaultsStand : Type 0
FirstFaultsStand = (i : ℕ) (fs gs : List (Option FaultKind)) → first_fault i (fs ++ gs) ≡ verdict_or (first_fault i fs) (first_fault (i + length fs) gs)

-- an operation that is pending after allowed entries may be stored where it makes no step with the rows of a table that has all stored rows, in any order
abbrev pub LonelyEntriesAreAllowed : Type 0
LonelyEntriesAreAllowed = (deploy : Deploy) (source : Work) (entries : List Entry) (space : Space)
    → AreAllowed deploy source entries space → (o : Row) → Among o space.pending
    → (rows : List Row) → AreAmong space.store rows → MeetsNothing rows o → IsAllowed deploy space (record { operation = o; making = None })

-- and it may make a step that it makes with stored rows, as those of a table
abbrev pub StepEntriesAreAllowed : Type 0
StepEntriesAreAllowed = (deploy : Deploy) (source : Work) (entries : List Entry) (space : Space)
    → AreAllowed deploy source entries space → (o : Row) → Among o space.pending
    → (rows : List Row) → AreAmong rows space.store → (a : Making) (w : Work) → MakesStep deploy rows space.made o a w → IsAllowed deploy space (record { operation = o; making = Some a })

-- under fresh digests, as often as a step that names a pending operation was made, so often that operation made it: who has the operation in hand can count
abbrev pub StepsOfAPendingRowAreItsOwn : Type 0
StepsOfAPendingRowAreItsOwn = (deploy : Deploy) (source : Work) (entries : List Entry) (space : Space)
    → AreAllowed deploy source entries space → AreFresh deploy space.made → (o : Row) → Among o space.pending
    → (s : Step) → takes_part o s ≡ true → count_by (same_meeting s) space.made ≡ count_by (same_meeting s) (steps_of (entries_on o.id entries))

-- so an operation may make a step whose repeat number is counted among the steps that it made itself
abbrev pub OwnStepsAreAllowed : Type 0
OwnStepsAreAllowed = (deploy : Deploy) (source : Work) (entries : List Entry) (space : Space)
    → AreAllowed deploy source entries space → (o : Row) → Among o space.pending
    → (rows : List Row) → AreAmong rows space.store → (a : Making) (w : Work) → MakesStep deploy rows (steps_of (entries_on o.id entries)) o a w
    → IsAllowed deploy space (record { operation = o; making = Some a })

-- under fresh digests a step that takes a row away was not made before, so its repeat number is 0
abbrev pub LeavingStepsAreFirst : Type 0
LeavingStepsAreFirst = (deploy : Deploy) (source : Work) (entries : List Entry) (space : Space)
    → AreAllowed deploy source entries space → AreFresh deploy space.made → (o : Row) → Among o space.pending
    → (rows : List Row) → AreAmong rows space.store → (r : Row) (sends : List Row) → AreAtHand rows o (r ∷ sends)
    → (m : Meeting) → met (r ∷ sends) ≡ Some m → is_lasting m ≡ false → (step_of space.made r sends).repeat ≡ 0

-- lists with the same rows in another order have each other's rows
abbrev pub MovedRowsAreAmong : Type 0
MovedRowsAreAmong = (rows others : List Row) → IsPermutation rows others → AreAmong rows others × AreAmong others rows

-- under fresh digests, where an operation and a queue are what is pending, in some order, after an entry of that operation what it leaves of it, what its body offers and the queue are
abbrev pub QueuesArePending : Type 0
QueuesArePending = (deploy : Deploy) (source : Work) (entries : List Entry) (space : Space)
    → AreAllowed deploy source entries space → AreFresh deploy space.made
    → (o : Row) (queue : List Row) → IsPermutation space.pending (o ∷ queue) → (x : Option Making) → IsPermutation (space_after space o x).pending ((left_in o x ++ offers_in x) ++ queue)

-- there, where no entry is on a row of the queue yet, none is on those and on what the body offers after it: so an operation that is taken from the queue, and kept in hand until it is stored or leaves, begins with no step of its own
abbrev pub QueuesHaveNoEntries : Type 0
QueuesHaveNoEntries = (deploy : Deploy) (source : Work) (entries : List Entry) (space : Space)
    → AreAllowed deploy source entries space → (e : Entry) → IsAllowed deploy space e → AreFresh deploy (after space e).made
    → (queue : List Row) → IsPermutation space.pending (e.operation ∷ queue) → ((z : Row) → Among z queue → entries_on z.id entries ≡ [])
    → (z : Row) → Among z (offers_in e.making ++ queue) → entries_on z.id (entries ++ e ∷ []) ≡ []

-- under fresh digests allowed entries reach their space from the beginning of the deploy
abbrev pub AllowedEntriesReach : Type 0
AllowedEntriesReach = (deploy : Deploy) (source : Work) (entries : List Entry) (space : Space) → AreAllowed deploy source entries space → AreFresh deploy space.made → IsReached deploy space

-- there no id is offered twice, and none that stood there before
abbrev pub OfferedIdsDiffer : Type 0
OfferedIdsDiffer = (deploy : Deploy) (space : Space) → IsReached deploy space → AreFresh deploy space.made → differ (first_ids deploy.rows ++ each (λ r. r.id) space.offered) ≡ true

-- with no premise on digests: what allowed entries from the empty state come to, or texts collide
abbrev pub AllowedEntriesAreARunOrCollide : Type 0
AllowedEntriesAreARunOrCollide = (p : Prices) (cap : ℕ) (t : Tree) (digest : List ℕ) (source : Work) (entries : List Entry) (space : Space)
    → AreAllowed (deploy_of p cap [] t digest) source entries space → FitsInTexts (deploy_of p cap [] t digest) (steps_of entries)
    → ComesTo (deploy_of p cap [] t digest) source entries space ⊎ Collides (deploy_of p cap [] t digest) (steps_of entries)

-- from a checkpoint of rows whose ids differ: what they come to, or a row's id is a built-in receiver's or made again, or texts collide
abbrev pub AllowedEntriesAreARunOrShowAnId : Type 0
AllowedEntriesAreARunOrShowAnId = (deploy : Deploy) (source : Work) (entries : List Entry) (space : Space)
    → AreAllowed deploy source entries space → FitsInTexts deploy (steps_of entries) → differ (each (λ r. r.id) deploy.rows) ≡ true
    → ComesTo deploy source entries space ⊎ (ShowsAnId deploy (steps_of entries) ⊎ Collides deploy (steps_of entries))

-- a step that an entry made, if it made one, costs at least so much
abbrev pub CostsAtLeast : ℕ → Entry → Type 0
CostsAtLeast n e = n * length (steps_in e.making) ≤ price_in e.making

-- where each step costs at least the price of a step, as one with its body does, entries within the limit make no more steps than it pays for, and one more entry makes one more at most
abbrev pub StepsAreFew : Type 0
StepsAreFew = (deploy : Deploy) (source : Work) (entries : List Entry) (last : Entry)
    → All (CostsAtLeast deploy.prices.comm) entries → total_of deploy source entries ≤ deploy.limit
    → (deploy.prices.comm * length (steps_of entries) ≤ deploy.limit) × (1 ≤ deploy.prices.comm → length (steps_of (entries ++ last ∷ [])) ≤ deploy.limit / deploy.prices.comm + 1)
