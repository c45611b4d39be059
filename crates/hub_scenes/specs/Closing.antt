-- What the done steps of a replay and its closed shards tell of its log.
use Rattle.std.specs.Prelude.{◌≡◌, ◌<◌, ◌↔◌, ℕ, zero, suc, ◌+◌, Bool, true, false, cond, eqb, ltb, List, [], ◌∷◌, ◌++◌, length, map as each, flat_map, sum_by, slice_get, Some, None, IsSome, IsPermutation}
use Rattle.std.specs.List.{list_any}
use Rattle.calculus.specs.Log.{Step, Header}
use Rattle.calculus.specs.Rows.{Row}
use Rattle.calculus.specs.Steps.{meeting, stored_rows}
use Rattle.calculus.specs.Candidates.{IsLeastAllowed}
use Rattle.calculus.specs.Runs.{Deploy, Work, work_price, work_fault, State, Verdict, done, exhausted, Leads, total, verdict, cost, next_rows}
use Rattle.events.specs.Events.{stored}
use Rattle.replays.specs.Replays.{Given, StopsAt, no_run, reducible, Outcome, refused, replayed, output_of, deploy_under, Answers}
use Rattle.events.specs.Entries.{first_fault}
use Rattle.events.specs.Shards.{IsProjection}
use Rattle.hub_scenes.specs.Spaces.{DidStep, Part, bare}

-- whether the step with this index is done
abbrev pub is_did : ℕ → List DidStep → Bool
is_did i ds = list_any (λ d. eqb i d.index) ds

-- each step of the log is done
abbrev pub AreAllDid : List Step → List DidStep → Type 0
AreAllDid ss ds = (i : ℕ) → i < length ss → is_did i ds ≡ true

-- the step with this index is the first that is not done
pub record IsFirstUndone (i : ℕ) (ds : List DidStep) : Type 0 where
  pub undone : is_did i ds ≡ false
  pub least : (j : ℕ) → j < i → is_did j ds ≡ true

-- what is done of the step with this index
abbrev pub did_at : ℕ → List DidStep → List DidStep
did_at i [] = []
did_at i (d ∷ ds) = cond (eqb i d.index) (d ∷ []) (did_at i ds)

-- what is done of the steps with indices below n, in the order of the log
abbrev pub in_log_order : ℕ → List DidStep → List DidStep
in_log_order zero ds = []
in_log_order (suc n) ds = in_log_order n ds ++ did_at n ds

-- what these done steps, in the order of the log, cost with the source's work
abbrev pub did_total : Deploy → Work → List DidStep → ℕ
did_total deploy w ds = work_price deploy.limit w + sum_by (λ d. d.price) ds

-- their verdict
abbrev pub did_verdict : Deploy → Work → List DidStep → Verdict
did_verdict deploy w ds = cond (ltb deploy.limit (did_total deploy w ds)) exhausted (first_fault 0 (work_fault w ∷ each (λ d. d.fault) ds))

-- what a deploy that did them is charged
abbrev pub did_cost : Deploy → Work → List DidStep → ℕ
did_cost deploy w ds = cond (ltb deploy.limit (did_total deploy w ds)) deploy.limit (did_total deploy w ds)

-- the lines that they print
abbrev pub did_lines : List DidStep → List ℕ
did_lines ds = flat_map (λ d. d.line) ds

-- a log is legal, and leads to a state that these done steps, in the order of the log, and these rows tell: with the rows those steps are still allowed that are allowed in it
pub record IsLegalLog (deploy : Deploy) (w : Work) (ss : List Step) (ds : List DidStep) (rows : List Row) : Type 0 where
  pub state : State
  pub leads : Leads deploy ss state
  pub made : state.made ≡ ss
  pub rows_are : IsPermutation (stored_rows state.bag) rows
  pub allowed : (s : Step) → IsSome (meeting (stored rows) ss s) ↔ IsSome (meeting state.bag state.made s)
  pub output : state.output ≡ did_lines ds
  pub total_is : total deploy.prices deploy.limit state ≡ did_total deploy w ds
  pub verdict_is : verdict deploy.prices deploy.limit state ≡ did_verdict deploy w ds
  pub cost_is : cost deploy.prices deploy.limit state ≡ did_cost deploy w ds

-- Done steps and shards decide a log: the shards have the rows of one store; where each step is done the log is legal and leads to what they tell; and else it stops being legal at the
-- first step that is not done.
pub record DecideLog (deploy : Deploy) (w : Work) (ss : List Step) (ds : List DidStep) (closed : List Part) : Type 0 where
  pub store : List Row
  pub shards : (k : ℕ) (x : Part) → slice_get closed k ≡ Some x → IsProjection store k (bare x.rows)
  pub legal : AreAllDid ss ds → IsLegalLog deploy w ss (in_log_order (length ss) ds) store
  pub stops : (i : ℕ) → i < length ss → IsFirstUndone i ds → StopsAt deploy ss i

-- an outcome that these done steps, in the order of the log, and these rows tell, the rows up to order
pub record IsDidOutcome (deploy : Deploy) (w : Work) (ds : List DidStep) (rows : List Row) (o : Outcome) : Type 0 where
  pub verdict_is : o.verdict ≡ did_verdict deploy w ds
  pub cost_is : o.cost ≡ did_cost deploy w ds
  pub output_is : o.output ≡ output_of (did_verdict deploy w ds) (did_lines ds)
  pub rows_are : IsPermutation o.rows (next_rows deploy.rows (did_verdict deploy w ds) (stored rows))

-- so they tell its answer under a right header: the first step that is not done; else the least step that is still allowed with the rows of the store, where the verdict is done; and else what it comes to
pub record DidTellAnswer (g : Given) (h : Header) (ss : List Step) (w : Work) (ds : List DidStep) (store : List Row) : Type 0 where
  pub stops : (i : ℕ) → i < length ss → IsFirstUndone i ds → Answers g h ss (refused (no_run i))
  pub goes_on : AreAllDid ss ds → did_verdict (deploy_under h.limit g) w (in_log_order (length ss) ds) ≡ done
      → (s : Step) → IsLeastAllowed (stored store) ss s → Answers g h ss (refused (reducible s.receiver s.data_ids))
  pub ends : AreAllDid ss ds → (did_verdict (deploy_under h.limit g) w (in_log_order (length ss) ds) ≡ done → (s : Step) → meeting (stored store) ss s ≡ None)
      → (o : Outcome) × (Answers g h ss (replayed o) × IsDidOutcome (deploy_under h.limit g) w (in_log_order (length ss) ds) store o)
