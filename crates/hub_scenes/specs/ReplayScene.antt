-- The scene of a replay: which entries are allowed.
use Rattle.std.specs.Prelude.{◌≡◌, ⊤, ℕ, ◌+◌, Bool, true, false, List, [], ◌∷◌, ◌++◌, map as each, None}
use Rattle.calculus.specs.Log.{Step}
use Rattle.calculus.specs.Steps.{Bag}
use Rattle.calculus.specs.Rows.{stdout, stdout_ack}
use Rattle.calculus.specs.Unfolding.{rows_of}
use Rattle.calculus.specs.Runs.{Deploy, Work, work_products, work_price, work_fault}
use Rattle.events.specs.Events.{AreFresh}
use Rattle.events.specs.EventLaws.{Begins}
use Rattle.hub_rule.specs.Meaning.{Meaning}
use Rattle.racing_replays.specs.Replaying.{DoneStep, rows_by}
use Rattle.racing_replays.specs.Racing.{RacingState, Arrives, Finishes, Idles, Races}
use Rattle.racing_replays.specs.Laws.{first_bag}
use Rattle.events.specs.Shards.{Covers}
use Rattle.hub_scenes.specs.Spaces.{Job, arrive, DidStep, Part, Space, new_row, bare, first_space, steps_did, IsIn, IsPart}
use Rattle.hub_scenes.specs.Entries.{Deed, arrives, does, idles, Entry, space_after, after, job_of, offers_of, PartBecomes}
use Rattle.hub_scenes.specs.Showing.{IsFirstUse, Makes, TellsEntry}

-- a done step as a space keeps it
abbrev pub did_step : Deploy → DoneStep → DidStep
did_step deploy d = record { index = d.index; step = d.step; offers = rows_by d; price = deploy.prices.comm + work_price deploy.limit d.work; fault = work_fault d.work; line = d.printed }

-- a space has the rows, the tries and the done steps of a state of a replay, and the built-in receivers
pub record IsSpaceOf (deploy : Deploy) (space : Space) (c : RacingState) : Type 0 where
  pub store : bare space.store ≡ c.store
  pub built : bare space.built ≡ stdout ∷ stdout_ack ∷ []
  pub arriving : each (λ a. a.row) space.arriving ≡ c.arriving
  pub tries : space.tries ≡ c.tries
  pub done : space.done ≡ each (did_step deploy) c.done

-- tries with these indices end, one behind the other
abbrev pub EndIdle : Bag → List Step → List ℕ → RacingState → RacingState → Type 0
EndIdle b ss [] c d = c ≡ d
EndIdle b ss (i ∷ js) c d = (m : RacingState) × Idles b ss c m × EndIdle b ss js m d

-- a step is done, and tries that it offers may end at once
pub record FinishesSo (deploy : Deploy) (w : Work) (ss : List Step) (c d : RacingState) : Type 0 where
  pub between : RacingState
  pub finishes : Finishes deploy.prices deploy.limit (first_bag deploy.rows w) ss c between
  pub early : List ℕ
  pub ends : EndIdle (first_bag deploy.rows w) ss early between d

module _ (deploy : Deploy) (ss : List Step) where
  -- the digests of the steps done so far are fresh
  abbrev pub IsFreshSpace : Space → Type 0
  IsFreshSpace space = AreFresh deploy (steps_did space.done)

  -- events lead to a state that the space has
  pub record IsReached (space : Space) : Type 0 where
    pub begins : Begins deploy space.work
    pub racing : RacingState
    pub races : Races deploy space.work ss racing
    pub is : IsSpaceOf deploy space racing

  -- the event of a deed, where the source comes to this work
  abbrev pub EventOf : Work → Deed → RacingState → RacingState → Type 0
  EventOf w (arrives a next) c d = Arrives ss c d
  EventOf w (does t a next) c d = FinishesSo deploy w ss c d
  EventOf w (idles t) c d = Idles (first_bag deploy.rows w) ss c d

  -- what a deed says is so
  abbrev pub IsRight : Space → (ℕ → Bool) → Deed → Type 0
  IsRight space touched (arrives a next) = IsIn a space.arriving × (Covers touched (a.row ∷ []) × IsFirstUse ss a.row next)
  IsRight space touched (does t a next) = Makes ss deploy (space.store ++ space.built) t.index touched a next
  IsRight space touched (idles t) = ⊤

  -- a deed is an event: events lead to a state that the space before it has, and one more, with early tries that end, to a state that the space after it has, and what it says is so
  pub record IsEvent (space : Space) (touched : ℕ → Bool) (deed : Deed) : Type 0 where
    pub reached : IsReached space
    pub next : RacingState
    pub event : EventOf space.work deed reached.racing next
    pub is : IsSpaceOf deploy (space_after space touched deed) next
    pub right : IsRight space touched deed

  -- an entry is allowed: its deed is an event, if the digests of the steps done so far are fresh
  abbrev pub IsAllowed : Space → Entry → Type 0
  IsAllowed space e = IsFreshSpace space → IsEvent space e.shards e.deed

  -- a replay begins with the checkpoint's rows, and what the source offers is to arrive
  pub record Opens (space : Space) (jobs : List Job) : Type 0 where
    pub work : Work
    pub begins : Begins deploy work
    pub is : space ≡ first_space deploy work
    pub are : jobs ≡ each (λ r. arrive (new_row None r)) (rows_of (work_products work))

  -- a shard is that of the space, if the digests of the steps done so far are fresh
  abbrev pub IsProjected : Space → ℕ → Part → Type 0
  IsProjected space k x = IsFreshSpace space → IsPart space k x

  -- the scene of a replay of a log of these steps: each entry ends its job, costs nothing and is no fault
  abbrev pub replay : Meaning Space Entry Part Job
  replay = record {
    projects = IsProjected;
    opens = Opens;
    after = after;
    allows = IsAllowed;
    takes = λ e. job_of e.deed;
    ends = λ e. true;
    offers = λ e. offers_of e.deed;
    touched = λ e k. e.shards k;
    effect = λ e k x y. PartBecomes e.deed k x y;
    price = λ e. 0;
    faults = λ e. false;
    tells = TellsEntry ss deploy;
  }
