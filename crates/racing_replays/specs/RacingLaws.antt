-- What the events of a replay by workers come to.
use Rattle.std.specs.Prelude.{◌≡◌, ◌⊎◌, true, List, [], ◌++◌, map as each, None, IsPermutation}
use Rattle.calculus.specs.Log.{Step, Header}
use Rattle.calculus.specs.Unfolding.{Unfolds}
use Rattle.calculus.specs.Steps.{differ, stored_rows, meeting}
use Rattle.calculus.specs.Runs.{Deploy, source_seed, Work}
use Rattle.events.specs.Events.{stored}
use Rattle.events.specs.Premises.{FitsInTexts}
use Rattle.replays.specs.Replays.{Given, header_refusal, deploy_under}
use Rattle.racing_replays.specs.Replaying.{Replay, done_steps, Replays}
use Rattle.racing_replays.specs.Racing.{RacingState, Races}
use Rattle.racing_replays.specs.Laws.{first_bag, IsFresh, FreshWalk, FullReplay}
use Rattle.racing_replays.specs.Answering.{TellsAnswer, SomeClash}

-- the steps that are done are a replay whose rows are those that have arrived or are to arrive
pub record RacesAs (deploy : Deploy) (w : Work) (ss : List Step) (c : RacingState) : Type 0 where
  pub replay : Replay
  pub replays : Replays deploy.prices deploy.limit (first_bag deploy.rows w) ss replay
  pub same_done : replay.done ≡ c.done
  pub same_rows : IsPermutation (stored_rows replay.bag) (c.store ++ c.arriving)

-- any events are a replay, from a checkpoint that allows no step and under fresh digests; once nothing is to arrive and nothing is to be tried it can't go on
abbrev pub RacesAreReplays : Type 0
RacesAreReplays = (deploy : Deploy) (w : Work) (ss : List Step) (c : RacingState)
    → IsFresh deploy.rows w c.done → ((s : Step) → meeting (stored deploy.rows) [] s ≡ None) → Races deploy w ss c
    → (a : RacesAs deploy w ss c) × (c.arriving ≡ [] → c.tries ≡ [] → FullReplay deploy w ss a.replay)

-- what events did is fresh where the digests of a walk are
abbrev pub RacesAreFresh : Type 0
RacesAreFresh = (deploy : Deploy) (w : Work) (ss : List Step) (k : Replay) (c : RacingState)
    → FreshWalk deploy w ss k → ((s : Step) → meeting (stored deploy.rows) [] s ≡ None) → Races deploy w ss c → IsFresh deploy.rows w c.done

-- with no premise on digests: what events did is fresh, or the digests of some replay of the log clash
abbrev pub RacesAreFreshOrClash : Type 0
RacesAreFreshOrClash = (deploy : Deploy) (w : Work) (ss : List Step) (c : RacingState)
    → Unfolds deploy.prices deploy.limit deploy.process (source_seed deploy) w → ((s : Step) → meeting (stored deploy.rows) [] s ≡ None) → Races deploy w ss c
    → FitsInTexts deploy (done_steps c.done) → differ (each (λ x. x.id) deploy.rows) ≡ true
    → IsFresh deploy.rows w c.done ⊎ SomeClash deploy w ss

-- the steps that are done are a replay that tells the answer to its log
abbrev pub RaceTellsAnswer : Given → Header → Work → List Step → RacingState → Type 0
RaceTellsAnswer g h w ss c = (a : RacesAs (deploy_under h.limit g) w ss c) × TellsAnswer g h w ss a.replay

-- once nothing is to arrive and nothing is to be tried, under a right header and fresh digests, what events did tells the answer to the log
abbrev pub RacesTellAnswers : Type 0
RacesTellAnswers = (g : Given) (h : Header) (w : Work) (ss : List Step) (c : RacingState) → header_refusal g h ≡ None
    → Unfolds g.prices h.limit g.process (source_seed (deploy_under h.limit g)) w → ((s : Step) → meeting (stored g.rows) [] s ≡ None) → Races (deploy_under h.limit g) w ss c
    → c.arriving ≡ [] → c.tries ≡ [] → IsFresh g.rows w c.done → RaceTellsAnswer g h w ss c

-- with no premise on digests: it does so, or the digests of some replay of the log clash
abbrev pub RacesTellAnswersOrClash : Type 0
RacesTellAnswersOrClash = (g : Given) (h : Header) (w : Work) (ss : List Step) (c : RacingState) → header_refusal g h ≡ None
    → Unfolds g.prices h.limit g.process (source_seed (deploy_under h.limit g)) w → ((s : Step) → meeting (stored g.rows) [] s ≡ None) → Races (deploy_under h.limit g) w ss c
    → c.arriving ≡ [] → c.tries ≡ [] → FitsInTexts (deploy_under h.limit g) (done_steps c.done) → differ (each (λ x. x.id) g.rows) ≡ true
    → RaceTellsAnswer g h w ss c ⊎ SomeClash (deploy_under h.limit g) w ss
