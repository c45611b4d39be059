-- The laws of the scene of a replay. Each stands in the contract of a public function that does nothing.
use Rattle.std.specs.Prelude.{◌≡◌, ◌⊎◌, ℕ, true, List, [], map as each, None}
use Rattle.calculus.specs.Log.{Step, Header}
use Rattle.calculus.specs.Unfolding.{Unfolds}
use Rattle.calculus.specs.Steps.{differ}
use Rattle.calculus.specs.Runs.{Deploy, source_seed, Work}
use Rattle.events.specs.Premises.{FitsInTexts}
use Rattle.hub_rule.specs.Meaning.{Lawful, Ran}
use Rattle.replays.specs.Replays.{Given, header_refusal, deploy_under}
use Rattle.racing_replays.specs.Answering.{SomeClash}
use Rattle.hub_scenes.specs.Spaces.{Job, DidStep, Part}
use Rattle.hub_scenes.specs.Entries.{Entry, did_by}
use Rattle.hub_scenes.specs.ReplayScene.{replay}
use Rattle.hub_scenes.specs.Closing.{DecideLog, DidTellAnswer}

-- the scene of a replay keeps the laws of a scene
abbrev pub ReplayIsLawful : Type 0
ReplayIsLawful = (deploy : Deploy) (ss : List Step) → Lawful (replay deploy ss)

-- where a hub over the scene ran until nothing was left and in hand, what its entries did and the closed shards decide the log, or the digests of some replay of the log clash; no premise on digests
abbrev pub HubsDecideOrClash : Type 0
HubsDecideOrClash = (deploy : Deploy) (ss : List Step) (w : Work) (opened : List Part) (jobs : List Job) (entries : List Entry) (closed : List Part) (left : List Job) (hands : List (ℕ × Job))
    → Unfolds deploy.prices deploy.limit deploy.process (source_seed deploy) w → FitsInTexts deploy ss → differ (each (λ r. r.id) deploy.rows) ≡ true
    → Ran (replay deploy ss) opened jobs entries closed left hands → left ≡ [] → hands ≡ []
    → DecideLog deploy w ss (did_by entries) closed ⊎ SomeClash deploy w ss

-- what decides a log tells its answer under a right header
abbrev pub DecidedLogsAreAnswered : Type 0
DecidedLogsAreAnswered = (g : Given) (h : Header) (ss : List Step) (w : Work) (ds : List DidStep) (closed : List Part) → header_refusal g h ≡ None
    → (d : DecideLog (deploy_under h.limit g) w ss ds closed) → DidTellAnswer g h ss w ds d.store
