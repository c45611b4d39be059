-- Shards in hand, and what an operation may meet there.
use Rattle.std.specs.Prelude.{◌≡◌, ◌↔◌, ⊤, ℕ, Bool, true, false, List, [], ◌∷◌, ◌++◌, filter, get_or, Option, Some, None, is_some, IfOk, IfSome, Result}
use Rattle.calculus.specs.Rows.{Row, stdout, stdout_ack}
use Rattle.calculus.specs.Steps.{as_datum, as_receiver}
use Rattle.calculus.specs.Tree.{Tree}
use Rattle.events.specs.Found.{Among, without}
use Rattle.found_rows.specs.declared.found.Found.{Found}
use Rattle.row_search.specs.Rows.{HasSends}
use Rattle.found_rows.specs.AtHand.{MeetsAtHand}
use Rattle.row_search.specs.Meetings.{IsFound, MeetsNothing}
use Rattle.events.specs.Allowed.{IdsTell, MeetsNothing as MakesNoStep, rows_at_hand}
use Rattle.events.specs.Shards.{stands_in}
use Rattle.shard_tables.specs.Hands.{AreInHand, GainsRow}
use Rattle.rspace_table.specs.Shown.{shown_by}

-- whether a row is a send, and whether it is a receive
abbrev pub is_send : Row → Bool
is_send r = is_some (as_datum r.part)

abbrev pub is_receive : Row → Bool
is_receive r = is_some (as_receiver r.part)

-- the shards in hand, by number, each seen as its rows: each of 64 is there or not
abbrev pub InHand : Type 0
InHand = List (Option (List Row))

-- the shard of a number, where it is in hand
abbrev pub shard_at : InHand → ℕ → Option (List Row)
shard_at hand k = get_or hand k None

-- all of these rows stand in the shard k
abbrev pub StandIn : ℕ → List Row → Type 0
StandIn k rows = (r : Row) → Among r rows → stands_in k r ≡ true

-- the rows of each shard in hand stand in the shard of its number
abbrev pub AreInPlace : InHand → Type 0
AreInPlace hand = (k : ℕ) (rows : List Row) → shard_at hand k ≡ Some rows → StandIn k rows

-- the same of one place
abbrev pub IsInPlace : ℕ → Option (List Row) → Type 0
IsInPlace k None = ⊤
IsInPlace k (Some rows) = StandIn k rows

-- of rows with one id the first
abbrev pub firsts : List Row → List Row
firsts [] = []
firsts (r ∷ rs) = r ∷ without (r.id ∷ []) (firsts rs)

-- the sends of a shard, where it is there, each found by its id
abbrev pub sends_of : Option (List Row) → List Row
sends_of None = []
sends_of (Some rows) = filter is_send (firsts rows)

-- those of all shards in hand
abbrev pub all_sends : InHand → List Row
all_sends [] = []
all_sends (x ∷ xs) = sends_of x ++ all_sends xs

-- the receives among these rows, each found by its id
abbrev pub receives_of : List Row → List Row
receives_of rows = filter is_receive (firsts rows)

-- what is shown of the shards in hand, where receivers are looked for among these rows: those receives, and all sends in hand, each found by its id
abbrev pub rows_for : List Row → InHand → List Row
rows_for heard hand = firsts (receives_of heard ++ all_sends hand)

-- these ids find all sends on a channel in a shard; none where it is not there
abbrev pub FindsSends : Option (List Row) → Tree → List (List ℕ) → Type 0
FindsSends None c ids = ids ≡ []
FindsSends (Some rows) c ids = HasSends rows c ids

-- whether a receive in a shard that hears an operation stands in the shard k
abbrev pub shown_at : Option (List Row) → Row → ℕ → Bool
shown_at None o k = false
shown_at (Some rows) o k = shown_by rows o k

-- with the receivers of a shard, where it is there, the operation meets nothing in hand
abbrev pub MeetsNoneAt : InHand → Option (List Row) → Row → Type 0
MeetsNoneAt hand None o = ⊤
MeetsNoneAt hand (Some rows) o = MeetsNothing (rows_for rows hand) o

-- what is found with those receivers
abbrev pub MeetsAt : InHand → Option (List Row) → Row → Found → Type 0
MeetsAt hand None o f = ⊥
MeetsAt hand (Some rows) o f = IsFound (rows_for rows hand) o f

-- with the receivers of no shard in hand the operation meets anything there
abbrev pub MeetsNoReceiver : InHand → Row → Type 0
MeetsNoReceiver hand o = (k : ℕ) (rows : List Row) → shard_at hand k ≡ Some rows → MeetsNothing (rows_for rows hand) o

-- what is found with the receivers of a shard in hand
abbrev pub MeetsAReceiver : InHand → Row → Found → Type 0
MeetsAReceiver hand o f = (k : ℕ) × (rows : List Row) × (shard_at hand k ≡ Some rows) × IsFound (rows_for rows hand) o f

-- what is made of a place for a shard where a row comes: the shard gains it, and a place without a shard stays
abbrev pub GainsAt : Row → ℕ → Option (List Row) → Option (List Row) → Type 0
GainsAt o k None new = new ≡ None
GainsAt o k (Some rows) new = (later : List Row) × (new ≡ Some later) × GainsRow o k rows later

-- these are the built-in receivers, in any order
abbrev pub AreBuiltIns : List Row → Type 0
AreBuiltIns rows = (r : Row) → Among r rows ↔ Among r (stdout ∷ stdout_ack ∷ [])

-- shards without rows
abbrev pub AreEmpty : List (List Row) → Type 0
AreEmpty [] = ⊤
AreEmpty (rows ∷ more) = (rows ≡ []) × AreEmpty more

-- what was found, of all the rows of which these shards are in hand, is what the operation meets there
abbrev pub FindsAMeeting : {E : Type 0} → InHand → Row → Result (Option Found) E → Type 0
FindsAMeeting hand o result = (all : List Row) → AreInHand (λ rows. rows) (shard_at hand) all → IfOk result (λ f. IfSome f (MeetsAtHand all o))

-- where nothing was found, and ids tell the rows that are in hand, the operation meets nothing there
abbrev pub MissesNoMeeting : {E : Type 0} → InHand → Row → Result (Option Found) E → Type 0
MissesNoMeeting hand o result = (all : List Row) → AreInHand (λ rows. rows) (shard_at hand) all → IdsTell (rows_at_hand all o)
    → IfOk result (λ f. f ≡ None → MakesNoStep all o)
