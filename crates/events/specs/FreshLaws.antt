-- Laws of the digests that a deploy makes. Each stands in the contract of a public function that does nothing.
use Rattle.std.specs.Prelude.{◌≡◌, ◌≢◌, ◌≤◌, ◌^◌, ◌⊎◌, ℕ, true, List, [], ◌++◌, length, map as each}
use Rattle.calculus.specs.Tree.{Tree, weight}
use Rattle.calculus.specs.Code.{code}
use Rattle.calculus.specs.Outcome.{Prices}
use Rattle.calculus.specs.Log.{Step}
use Rattle.calculus.specs.Steps.{is_one_of, differ}
use Rattle.calculus.specs.Runs.{deploy_of, Deploy, Work, State, Leads, IsLegal, done, verdict, IsRun, made_digests}
use Rattle.events.specs.Events.{Core, started, Events, AreFresh, digests, built_in_ids, built_in_digests, FreshDigests}
use Rattle.events.specs.EventLaws.{Begins, Follows}
use Rattle.events.specs.Numbers.{most_names, IsNumberable}
use Rattle.events.specs.HashedTexts.{hashed_texts}
use Rattle.events.specs.Premises.{FitsInTexts, Shares, Collides}

-- the room plays no part in what a legal list hashes: no other text is hashed with less room or with more than is enough
abbrev pub RoomAddsNoTexts : Type 0
RoomAddsNoTexts = (deploy : Deploy) (ss : List Step) (a : State)
    → (l : Leads deploy ss a) → (room : ℕ) (text : List ℕ) → is_one_of text (hashed_texts deploy room ss) ≡ true → is_one_of text (hashed_texts deploy l.0 ss) ≡ true

-- wherever legal steps lead, from any checkpoint: no two digests that are built in or made are equal, or texts collide
abbrev pub MadeDigestsDiffer : Type 0
MadeDigestsDiffer = (deploy : Deploy) (ss : List Step) (a : State)
    → FitsInTexts deploy ss → Leads deploy ss a
    → (differ (built_in_digests ++ made_digests a) ≡ true) ⊎ Collides deploy ss

-- beside any old digests that differ, the ids of the built-in receivers and the digests that are made differ too, or one of the old ones is one of these, or texts collide
abbrev pub OldDigestsDiffer : Type 0
OldDigestsDiffer = (deploy : Deploy) (ss : List Step) (a : State) (old : List (List ℕ))
    → FitsInTexts deploy ss → Leads deploy ss a → differ old ≡ true
    → (differ (old ++ (built_in_ids ++ made_digests a)) ≡ true) ⊎ (Shares old (built_in_ids ++ made_digests a) ⊎ Collides deploy ss)

-- along a legal list from the empty state the digests are fresh, or texts collide
abbrev pub LegalListsAreFresh : Type 0
LegalListsAreFresh = (p : Prices) (cap : ℕ) (t : Tree) (source : List ℕ) (ss : List Step)
    → FitsInTexts (deploy_of p cap [] t source) ss → IsLegal (deploy_of p cap [] t source) ss → FreshDigests p cap t source ss ⊎ Collides (deploy_of p cap [] t source) ss

-- along a legal list from a checkpoint of rows whose ids differ they are fresh, or a row's id is a built-in receiver's or made at the list's end, or texts collide
abbrev pub LegalListsAreFreshOrShowAnId : Type 0
LegalListsAreFreshOrShowAnId = (deploy : Deploy) (ss : List Step)
    → FitsInTexts deploy ss → differ (each (λ r. r.id) deploy.rows) ≡ true → (l : IsLegal deploy ss)
    → AreFresh deploy ss ⊎ (Shares (each (λ r. r.id) deploy.rows) (built_in_ids ++ made_digests l.0) ⊎ Collides deploy ss)

-- whatever events lead to from the empty state, the digests of its steps are fresh, or texts collide
abbrev pub EventsAreFresh : Type 0
EventsAreFresh = (p : Prices) (cap : ℕ) (t : Tree) (source : List ℕ) (w : Work) (c : Core)
    → Begins (deploy_of p cap [] t source) w → Events p cap (started [] w) c → FitsInTexts (deploy_of p cap [] t source) c.made
    → FreshDigests p cap t source c.made ⊎ Collides (deploy_of p cap [] t source) c.made

-- whatever events lead to from a checkpoint of rows whose ids differ, the digests of its steps are fresh, or a row's id is a built-in receiver's or made, or texts collide
abbrev pub EventsAreFreshOrShowAnId : Type 0
EventsAreFreshOrShowAnId = (deploy : Deploy) (w : Work) (c : Core)
    → Begins deploy w → Events deploy.prices deploy.limit (started deploy.rows w) c → FitsInTexts deploy c.made → differ (each (λ r. r.id) deploy.rows) ≡ true
    → AreFresh deploy c.made ⊎ (Shares (each (λ r. r.id) deploy.rows) (built_in_ids ++ digests c.works) ⊎ Collides deploy c.made)

-- with no premise on digests: whatever events lead to from the empty state follows a legal list, which is a run once nothing is pending or the verdict is not done, or texts collide
abbrev pub EventsAreARunOrCollide : Type 0
EventsAreARunOrCollide = (p : Prices) (cap : ℕ) (t : Tree) (source : List ℕ) (w : Work) (c : Core)
    → Begins (deploy_of p cap [] t source) w → Events p cap (started [] w) c → FitsInTexts (deploy_of p cap [] t source) c.made
    → ((f : Follows (deploy_of p cap [] t source) c) × ((c.pending ≡ []) ⊎ (verdict p cap f.state ≢ done) → IsRun (deploy_of p cap [] t source) c.made f.state)) ⊎ Collides (deploy_of p cap [] t source) c.made

-- from a checkpoint of rows whose ids differ it does so too, or a row's id is a built-in receiver's or made, or texts collide
abbrev pub EventsAreARunOrShowAnId : Type 0
EventsAreARunOrShowAnId = (deploy : Deploy) (w : Work) (c : Core)
    → Begins deploy w → Events deploy.prices deploy.limit (started deploy.rows w) c → FitsInTexts deploy c.made → differ (each (λ r. r.id) deploy.rows) ≡ true
    → ((f : Follows deploy c) × ((c.pending ≡ []) ⊎ (verdict deploy.prices deploy.limit f.state ≢ done) → IsRun deploy c.made f.state))
    ⊎ (Shares (each (λ r. r.id) deploy.rows) (built_in_ids ++ digests c.works) ⊎ Collides deploy c.made)

-- four bytes number the parts and names of a process whose code has at most 2^32 bytes, as every process has that is within the limits
abbrev pub ShortProcessesAreNumberable : Type 0
ShortProcessesAreNumberable = (t : Tree) → length (code t) ≤ 2 ^ 32 → IsNumberable t

-- and those of one of at most 2^32 nodes, in which no `new` declares more names
abbrev pub SmallProcessesAreNumberable : Type 0
SmallProcessesAreNumberable = (t : Tree) → weight t ≤ 2 ^ 32 → most_names t ≤ 2 ^ 32 → IsNumberable t
