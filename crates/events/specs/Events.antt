-- Events of the core: a worker takes one pending operation, and either stores it or makes a step with it.
use Rattle.std.specs.Prelude.{◌≡◌, ℕ, Bool, true, List, [], ◌∷◌, ◌++◌, map as each, flat_map, Some, None, ◌⊎◌}
use Rattle.calculus.specs.Tree.{Tree}
use Rattle.calculus.specs.Outcome.{Prices}
use Rattle.calculus.specs.Log.{Step}
use Rattle.calculus.specs.Seeds.{digest_of, System}
use Rattle.calculus.specs.Rows.{Row, stdout, stdout_ack}
use Rattle.calculus.specs.Unfolding.{rows_of, digest}
use Rattle.calculus.specs.Steps.{Bag, Meeting, is_one_of, differ, meeting, printed_line, bag_after}
use Rattle.calculus.specs.Runs.{deploy_of, Deploy, Work, work_products, body_work, Leads, made_digests}

-- the rows that are stored, the operations that are pending, the steps made, the work of the source and of each step's body, in order, and what was printed
pub record Core : Type 0 where
  pub store : List Row
  pub pending : List Row
  pub made : List Step
  pub works : List Work
  pub output : List ℕ

-- the core before the first event: a checkpoint's rows, and what the source offers
abbrev pub started : List Row → Work → Core
started rows w = record { store = rows; pending = rows_of (work_products w); made = []; works = w ∷ []; output = [] }

-- the bag of stored rows alone
abbrev pub stored : List Row → Bag
stored rows = record { kept = rows; offered = [] }

-- the bag of stored rows and one operation
abbrev pub with_operation : List Row → Row → Bag
with_operation rows r = record { kept = rows; offered = r ∷ [] }

-- whether a row is named by a step
abbrev pub takes_part : Row → Step → Bool
takes_part r s = is_one_of r.id (s.receiver ∷ s.data_ids)

-- the core after an operation was stored
abbrev pub after_put : Core → Row → List Row → List Row → Core
after_put c r before after = record { store = c.store ++ r ∷ []; pending = before ++ after; made = c.made; works = c.works; output = c.output }

-- an operation is stored: it is pending, and no step is allowed that it makes with stored rows and the built-in receivers
pub record Puts (c d : Core) : Type 0 where
  pub operation : Row
  pub before : List Row
  pub after : List Row
  pub pending : c.pending ≡ before ++ operation ∷ after
  pub alone : (s : Step) → takes_part operation s ≡ true → meeting (with_operation c.store operation) c.made s ≡ None
  pub is : d ≡ after_put c operation before after

-- the core after a step of an operation with stored rows: what leaves the bag is gone, the operation is pending still if it stays, and so is what the body offers
abbrev pub stepped : Core → Row → List Row → List Row → Step → Meeting → Work → Core
stepped c r before after s m w =
    let b : Bag = bag_after (with_operation c.store r) m (rows_of (work_products w)) in
    record { store = b.kept; pending = before ++ (b.offered ++ after); made = c.made ++ s ∷ []; works = c.works ++ w ∷ []; output = c.output ++ printed_line (with_operation c.store r) m }

-- an operation makes a step: it is pending, and with stored rows and the built-in receivers makes a step that is allowed
pub record Meets (p : Prices) (cap : ℕ) (c d : Core) : Type 0 where
  pub operation : Row
  pub before : List Row
  pub after : List Row
  pub pending : c.pending ≡ before ++ operation ∷ after
  pub step : Step
  pub takes : takes_part operation step ≡ true
  pub found : Meeting
  pub allowed : meeting (with_operation c.store operation) c.made step ≡ Some found
  pub room : ℕ
  pub work : Work
  pub works : body_work p cap room step found ≡ Some work
  pub is : d ≡ stepped c operation before after step found work

-- an event
abbrev pub Event : Prices → ℕ → Core → Core → Type 0
Event p cap c d = Puts c d ⊎ Meets p cap c d

-- events lead from one core to another
pub data Events (p : Prices) (cap : ℕ) (c : Core) : Core → Type 0 where
  no_event : Events p cap c c
  one_more : {d e : Core} → Events p cap c d → Event p cap d e → Events p cap c e

-- the ids of what stands before the first step: of the checkpoint's rows and of the built-in receivers
abbrev pub first_ids : List Row → List (List ℕ)
first_ids rows = each (λ r. r.id) (rows ++ (stdout ∷ stdout_ack ∷ []))

-- the digests that a deploy makes are fresh: wherever its first steps lead, no two of the ids that stood there before and the ids and names made so far are equal
abbrev pub AreFresh : Deploy → List Step → Type 0
AreFresh deploy ss = (first rest : List Step) → ss ≡ first ++ rest
    → (a : _) → Leads deploy first a → differ (first_ids deploy.rows ++ made_digests a) ≡ true

-- the ids and fresh names that these works made
abbrev pub digests : List Work → List (List ℕ)
digests ws = flat_map (λ w. each digest (work_products w)) ws

-- the fresh names of the built-in receivers' channels
abbrev pub built_in_names : List (List ℕ)
built_in_names = digest_of (System 0) ∷ digest_of (System 1) ∷ []

-- the ids of the built-in receivers
abbrev pub built_in_ids : List (List ℕ)
built_in_ids = first_ids []

-- the ids of the built-in receivers, and the names of their channels
abbrev pub built_in_digests : List (List ℕ)
built_in_digests = built_in_ids ++ built_in_names

-- the digests that a deploy from the empty state makes are fresh: wherever its first steps lead, no two of these are equal: the built-in receivers' ids and their channels' names, and the ids and names made so far
abbrev pub FreshDigests : Prices → ℕ → Tree → List ℕ → List Step → Type 0
FreshDigests p cap t source ss = (first rest : List Step) → ss ≡ first ++ rest
    → (a : _) → Leads (deploy_of p cap [] t source) first a → differ (built_in_digests ++ made_digests a) ≡ true
