-- Legal lists of steps, verdicts and runs.
use Rattle.std.specs.Prelude.{◌≡◌, ℕ, zero, suc, ◌+◌, ◌*◌, cond, ltb, List, [], ◌∷◌, ◌++◌, length, map as each, flat_map, sum_by, Option, Some, None, option_map, option_and_then, IsSome}
use Rattle.calculus.specs.declared.fault.FaultKind.{FaultKind}
use Rattle.calculus.specs.Tree.{Tree}
use Rattle.calculus.specs.Outcome.{Prices, Answer, gives, fails, unknown, Capped, over, within, capped}
use Rattle.calculus.specs.Seeds.{digest_of, Start, Comm}
use Rattle.calculus.specs.Log.{Step}
use Rattle.calculus.specs.Rows.{Row}
use Rattle.calculus.specs.Root.{root}
use Rattle.calculus.specs.Unfolding.{Product, rows_of, digest, unfold_in, unfold_under}
use Rattle.calculus.specs.Steps.{Bag, Meeting, meeting, printed_line, bag_after, stored_rows}

-- a deploy: its prices and its limit, the rows of the checkpoint that it starts from, its process, and the digest of its source
pub record Deploy : Type 0 where
  pub prices : Prices
  pub limit : ℕ
  pub rows : List Row
  pub process : Tree
  pub source : List ℕ

-- the deploy of these
abbrev pub deploy_of : Prices → ℕ → List Row → Tree → List ℕ → Deploy
deploy_of p cap rows t source = record { prices = p; limit = cap; rows = rows; process = t; source = source }

-- the seed that the process of a deploy is unfolded with
abbrev pub source_seed : Deploy → List ℕ
source_seed d = digest_of (Start (root d.rows) d.source)

-- what an unfolding comes to under the cap
abbrev pub Work : Type 0
Work = Capped (List Product)

-- what an answer makes: nothing with a fault
abbrev pub answer_products : Answer (List Product) → List Product
answer_products (gives ts) = ts
answer_products (fails f) = []
answer_products unknown = []

-- what work makes: nothing beyond the cap
abbrev pub work_products : Work → List Product
work_products over = []
work_products (within o) = answer_products o.answer

-- the price of work under this cap: one more than the cap beyond it
abbrev pub work_price : ℕ → Work → ℕ
work_price cap over = cap + 1
work_price cap (within o) = o.price

-- the fault of an answer
abbrev pub answer_fault : Answer (List Product) → Option FaultKind
answer_fault (gives ts) = None
answer_fault (fails f) = Some f
answer_fault unknown = None

-- the fault of work: none beyond the cap
abbrev pub work_fault : Work → Option FaultKind
work_fault over = None
work_fault (within o) = answer_fault o.answer

-- what a list of steps has come to: the bag, the steps made, the work of the source and of each step's body, in order, and what was printed
pub record State : Type 0 where
  pub bag : Bag
  pub made : List Step
  pub works : List Work
  pub output : List ℕ

-- a step is allowed in a state
abbrev pub Allowed : State → Step → Type 0
Allowed a s = IsSome (meeting a.bag a.made s)

-- the work of a step's body under its bindings, where this room is enough
abbrev pub body_work : Prices → ℕ → ℕ → Step → Meeting → Option Work
body_work p cap room s m = capped cap (unfold_under (unfold_in p room) (digest_of (Comm s.receiver s.data_ids s.repeat)) m.bindings m.receiver.body)

-- the state after a step that is made so and whose body comes to this
abbrev pub moved : State → Step → Meeting → Work → State
moved a s m w = record { bag = bag_after a.bag m (rows_of (work_products w)); made = a.made ++ s ∷ []; works = a.works ++ w ∷ []; output = a.output ++ printed_line a.bag m }

-- the state after a step, where it is allowed and this room is enough
abbrev pub step_from : Prices → ℕ → ℕ → State → Step → Option State
step_from p cap room a s = option_and_then (λ m. option_map (moved a s m) (body_work p cap room s m)) (meeting a.bag a.made s)

-- the state after a list of steps, where each is allowed after those before it and this room is enough
abbrev pub steps_from : Prices → ℕ → ℕ → State → List Step → Option State
steps_from p cap room a [] = Some a
steps_from p cap room a (s ∷ ss) = option_and_then (λ b. steps_from p cap room b ss) (step_from p cap room a s)

-- the state before the first step, where the source comes to this
abbrev pub begun : List Row → Work → State
begun rows w = record { bag = record { kept = rows; offered = rows_of (work_products w) }; made = []; works = w ∷ []; output = [] }

-- the state of a deploy before its first step, where this room is enough
abbrev pub first_state : Deploy → ℕ → Option State
first_state d room = option_map (begun d.rows) (capped d.limit (unfold_in d.prices room d.process (source_seed d)))

-- the state of a deploy after a list of steps, where the list is legal and this room is enough
abbrev pub state_after : Deploy → ℕ → List Step → Option State
state_after d room ss = option_and_then (λ a. steps_from d.prices d.limit room a ss) (first_state d room)

-- a list of steps of a deploy leads to this state
abbrev pub Leads : Deploy → List Step → State → Type 0
Leads d ss a = (room : ℕ) × state_after d room ss ≡ Some a

-- a list of steps of a deploy is legal: each is allowed after those before it
abbrev pub IsLegal : Deploy → List Step → Type 0
IsLegal d ss = (a : State) × Leads d ss a

-- the price of all work and steps so far
abbrev pub total : Prices → ℕ → State → ℕ
total p cap a = p.comm * length a.made + sum_by (work_price cap) a.works

-- how a deploy ends: done, with the limit passed, or with the first fault, of this step from 0 on, or of the source where there is none
pub data Verdict : Type 0 where
  done : Verdict
  exhausted : Verdict
  faulted : Option ℕ → FaultKind → Verdict

-- the step that work number i belongs to: number 0 is the source's
abbrev pub step_of_work : ℕ → Option ℕ
step_of_work zero = None
step_of_work (suc i) = Some i

-- the verdict where work number i has this fault, or else this verdict
abbrev pub at_fault : ℕ → Option FaultKind → Verdict → Verdict
at_fault i None v = v
at_fault i (Some f) v = faulted (step_of_work i) f

-- the verdict of the first fault in these works, the first of them number i
abbrev pub fault_verdict : ℕ → List Work → Verdict
fault_verdict i [] = done
fault_verdict i (w ∷ ws) = at_fault i (work_fault w) (fault_verdict (suc i) ws)

-- the verdict of a state
abbrev pub verdict : Prices → ℕ → State → Verdict
verdict p cap a = cond (ltb cap (total p cap a)) exhausted (fault_verdict 0 a.works)

-- what a deploy that ends in this state costs
abbrev pub cost : Prices → ℕ → State → ℕ
cost p cap a = cond (ltb cap (total p cap a)) cap (total p cap a)

-- the rows that a deploy with this verdict leaves: the old ones, or those of its last bag where it is done
abbrev pub next_rows : List Row → Verdict → Bag → List Row
next_rows rows done b = stored_rows b
next_rows rows _ b = rows

-- a state in which a run may end: exhausted, faulted, or without an allowed step
abbrev pub IsEnd : Prices → ℕ → State → Type 0
IsEnd p cap a = verdict p cap a ≡ done → (s : Step) → meeting a.bag a.made s ≡ None

-- a run of a deploy: a list of steps that leads to such a state
pub record IsRun (d : Deploy) (ss : List Step) (a : State) : Type 0 where
  pub leads : Leads d ss a
  pub ends : IsEnd d.prices d.limit a

-- the ids and fresh names that the source and the bodies of the steps made
abbrev pub made_digests : State → List (List ℕ)
made_digests a = flat_map (λ w. each digest (work_products w)) a.works
