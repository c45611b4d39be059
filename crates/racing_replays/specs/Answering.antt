-- The answer to a log, as a replay by many workers tells it.
use Rattle.std.specs.Prelude.{◌≡◌, ◌<◌, ◌⊎◌, ℕ, true, List, ◌++◌, length, map as each, None}
use Rattle.calculus.specs.Log.{Step, Header}
use Rattle.calculus.specs.Unfolding.{Unfolds}
use Rattle.calculus.specs.Steps.{differ, meeting}
use Rattle.calculus.specs.Candidates.{IsLeastAllowed}
use Rattle.calculus.specs.Runs.{Deploy, source_seed, Work, verdict, done, made_digests}
use Rattle.events.specs.Events.{built_in_ids}
use Rattle.events.specs.Premises.{FitsInTexts, Shares, Collides}
use Rattle.replays.specs.Replays.{Given, no_run, reducible, Outcome, refused, replayed, header_refusal, outcome_of, deploy_under, Answers}
use Rattle.racing_replays.specs.Replaying.{Replay, done_steps, Replays}
use Rattle.racing_replays.specs.Laws.{first_bag, state_of, logged_state, FreshWalk, FullReplay, Agree, AreAllDone, IsFirstLeft, AreAlikeOutcomes}

-- a replay tells the answer to its log: its first step that is not done is named; else the least step that is still allowed, where the verdict is done; and else its outcome is the answer's, with the rows up to order
pub record TellsAnswer (g : Given) (h : Header) (w : Work) (ss : List Step) (r : Replay) : Type 0 where
  pub stops : (i : ℕ) → i < length ss → IsFirstLeft i r → Answers g h ss (refused (no_run i))
  pub goes_on : AreAllDone ss r → verdict g.prices h.limit (logged_state w ss r) ≡ done → (s : Step) → IsLeastAllowed r.bag (done_steps r.done) s → Answers g h ss (refused (reducible s.receiver s.data_ids))
  pub ends : AreAllDone ss r → (verdict g.prices h.limit (logged_state w ss r) ≡ done → (s : Step) → meeting r.bag (done_steps r.done) s ≡ None)
      → (o : Outcome) × (Answers g h ss (replayed o) × AreAlikeOutcomes (outcome_of (deploy_under h.limit g) (logged_state w ss r)) o)

-- every replay of a log under a right header that can't go on tells its answer, under fresh digests
abbrev pub ReplaysTellAnswers : Type 0
ReplaysTellAnswers = (g : Given) (h : Header) (w : Work) (ss : List Step) (k r : Replay) → header_refusal g h ≡ None
    → Unfolds g.prices h.limit g.process (source_seed (deploy_under h.limit g)) w → FreshWalk (deploy_under h.limit g) w ss k → FullReplay (deploy_under h.limit g) w ss r
    → TellsAnswer g h w ss r

-- a row's id is a built-in receiver's or made in a replay, or two of the texts that are hashed for its steps have one digest
abbrev pub Clashes : Deploy → Work → Replay → Type 0
Clashes deploy w r = Shares (each (λ x. x.id) deploy.rows) (built_in_ids ++ made_digests (state_of w r)) ⊎ Collides deploy (done_steps r.done)

-- the digests of some replay of a log clash
abbrev pub SomeClash : Deploy → Work → List Step → Type 0
SomeClash deploy w ss = (q : Replay) × (Replays deploy.prices deploy.limit (first_bag deploy.rows w) ss q × Clashes deploy w q)

-- a replay that can't go on has a walk whose digests are fresh, or its digests clash
abbrev pub ReplaysAreFreshOrClash : Type 0
ReplaysAreFreshOrClash = (deploy : Deploy) (w : Work) (ss : List Step) (r : Replay)
    → Unfolds deploy.prices deploy.limit deploy.process (source_seed deploy) w → FullReplay deploy w ss r → FitsInTexts deploy (done_steps r.done) → differ (each (λ x. x.id) deploy.rows) ≡ true
    → ((k : Replay) × FreshWalk deploy w ss k) ⊎ Clashes deploy w r

-- with no premise on digests: any two replays of a log that can't go on agree, or those of the one clash
abbrev pub ReplaysAgreeOrClash : Type 0
ReplaysAgreeOrClash = (deploy : Deploy) (w : Work) (ss : List Step) (r q : Replay)
    → Unfolds deploy.prices deploy.limit deploy.process (source_seed deploy) w → FullReplay deploy w ss r → FullReplay deploy w ss q
    → FitsInTexts deploy (done_steps r.done) → differ (each (λ x. x.id) deploy.rows) ≡ true
    → Agree ss q r ⊎ Clashes deploy w r

-- and each tells the answer to its log, or its digests clash
abbrev pub ReplaysTellAnswersOrClash : Type 0
ReplaysTellAnswersOrClash = (g : Given) (h : Header) (w : Work) (ss : List Step) (r : Replay) → header_refusal g h ≡ None
    → Unfolds g.prices h.limit g.process (source_seed (deploy_under h.limit g)) w → FullReplay (deploy_under h.limit g) w ss r
    → FitsInTexts (deploy_under h.limit g) (done_steps r.done) → differ (each (λ x. x.id) g.rows) ≡ true
    → TellsAnswer g h w ss r ⊎ Clashes (deploy_under h.limit g) w r
