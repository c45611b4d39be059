-- What is said of the answers to replays.
use Rattle.std.specs.Prelude.{◌≡◌, List, None}
use Rattle.calculus.specs.Log.{Step, Header}
use Rattle.calculus.specs.Runs.{State, IsRun}
use Rattle.replays.specs.Replays.{Given, Refusal, Answer, refused, replayed, header_refusal, outcome_of, deploy_under, Answers}

-- a log has one answer at most
abbrev pub OneAnswer : Type 0
OneAnswer = (g : Given) (h : Header) (ss : List Step) (x y : Answer) → Answers g h ss x → Answers g h ss y → x ≡ y

-- a log under a right header whose steps are a run is answered by what that run came to
abbrev pub RunsAreReplayed : Type 0
RunsAreReplayed = (g : Given) (h : Header) (ss : List Step) (a : State) → header_refusal g h ≡ None → IsRun (deploy_under h.limit g) ss a
    → Answers g h ss (replayed (outcome_of (deploy_under h.limit g) a))

-- and where a log under a right header is refused, its steps are no run
abbrev pub RefusedLogsAreNoRuns : Type 0
RefusedLogsAreNoRuns = (g : Given) (h : Header) (ss : List Step) (r : Refusal) (a : State) → header_refusal g h ≡ None → Answers g h ss (refused r) → IsRun (deploy_under h.limit g) ss a → ⊥
