-- The answer to a replay of a log: what its run came to, or why it is no run of this deploy.
use Rattle.std.specs.Prelude.{◌≡◌, ℕ, cond, leb, ◌&&◌, List, [], ◌∷◌, ◌++◌, length, Option, Some, None}
use Rattle.std.specs.Str.{bytes_eq}
use Rattle.calculus.specs.Tree.{Tree}
use Rattle.calculus.specs.Outcome.{Prices}
use Rattle.calculus.specs.Limits.{price_digest, most_limit}
use Rattle.calculus.specs.Log.{Step, Header}
use Rattle.calculus.specs.Rows.{Row}
use Rattle.calculus.specs.Root.{root}
use Rattle.calculus.specs.Steps.{meeting}
use Rattle.calculus.specs.Candidates.{IsLeastAllowed}
use Rattle.calculus.specs.Runs.{Deploy, deploy_of, State, Verdict, done, Leads, verdict, cost, next_rows, IsEnd}

-- what a replay is given beside the log: a checkpoint's rows, the process and the digest of its source, and the prices
pub record Given : Type 0 where
  pub rows : List Row
  pub process : Tree
  pub source : List ℕ
  pub prices : Prices

-- why a log is refused: it names another base, source or prices than those given, or a limit out of range; its steps are not legal from this step on; or a step is still allowed, of this receiver and these data
pub data Refusal : Type 0 where
  wrong_base : List ℕ → List ℕ → Refusal
  wrong_source : List ℕ → List ℕ → Refusal
  wrong_prices : List ℕ → List ℕ → Refusal
  wrong_limit : ℕ → ℕ → Refusal
  no_run : ℕ → Refusal
  reducible : List ℕ → List (List ℕ) → Refusal

-- what a replayed run came to: its verdict, what it costs, the rows that it leaves and what it printed
pub record Outcome : Type 0 where
  pub verdict : Verdict
  pub cost : ℕ
  pub rows : List Row
  pub output : List ℕ

-- a refusal or an outcome
pub data Answer : Type 0 where
  refused : Refusal → Answer
  replayed : Outcome → Answer

-- this refusal where two digests differ, and else the next one
abbrev pub unless_equal : List ℕ → List ℕ → Refusal → Option Refusal → Option Refusal
unless_equal x y r next = cond (bytes_eq x y) next (Some r)

-- why a header is refused: the first of its parts that is wrong
abbrev pub header_refusal : Given → Header → Option Refusal
header_refusal g h =
    unless_equal h.base (root g.rows) (wrong_base h.base (root g.rows))
    (unless_equal h.source g.source (wrong_source h.source g.source)
    (unless_equal h.prices (price_digest g.prices) (wrong_prices h.prices (price_digest g.prices))
    (cond (leb 1 h.limit && leb h.limit (most_limit g.prices)) None (Some (wrong_limit h.limit (most_limit g.prices))))))

-- a list of steps is legal up to its step number i, and no further
pub record StopsAt (d : Deploy) (ss : List Step) (i : ℕ) : Type 0 where
  pub before : List Step
  pub step : Step
  pub after : List Step
  pub is : ss ≡ before ++ step ∷ after
  pub place : length before ≡ i
  pub state : State
  pub leads : Leads d before state
  pub stops : meeting state.bag state.made step ≡ None

-- what a run prints counts where it is done
abbrev pub output_of : Verdict → List ℕ → List ℕ
output_of done out = out
output_of _ out = []

-- what a run that ends in this state came to
abbrev pub outcome_of : Deploy → State → Outcome
outcome_of d a =
    let v : Verdict = verdict d.prices d.limit a in
    record { verdict = v; cost = cost d.prices d.limit a; rows = next_rows d.rows v a.bag; output = output_of v a.output }

-- the deploy that a replay repeats under this limit
abbrev pub deploy_under : ℕ → Given → Deploy
deploy_under cap g = deploy_of g.prices cap g.rows g.process g.source

-- the answer to a replay of this header and these steps
pub data Answers (g : Given) (h : Header) (ss : List Step) : Answer → Type 0 where
  by_header : {r : Refusal} → header_refusal g h ≡ Some r → Answers g h ss (refused r)
  by_step : {i : ℕ} → header_refusal g h ≡ None → StopsAt (deploy_under h.limit g) ss i → Answers g h ss (refused (no_run i))
  by_rest : {a : State} {s : Step} → header_refusal g h ≡ None → Leads (deploy_under h.limit g) ss a
      → verdict g.prices h.limit a ≡ done → IsLeastAllowed a.bag a.made s → Answers g h ss (refused (reducible s.receiver s.data_ids))
  by_end : {a : State} → header_refusal g h ≡ None → Leads (deploy_under h.limit g) ss a
      → IsEnd g.prices h.limit a → Answers g h ss (replayed (outcome_of (deploy_under h.limit g) a))
