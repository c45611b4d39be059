-- What workers write while a deploy runs, entry by entry: an operation was stored, or it made a step.
use Rattle.std.specs.Prelude.{ℕ, suc, ◌+◌, cond, ltb, List, [], ◌∷◌, ◌++◌, Option, Some, None}
use Rattle.std.specs.Str.{bytes_eq}
use Rattle.calculus.specs.declared.fault.FaultKind.{FaultKind}
use Rattle.calculus.specs.Log.{Step}
use Rattle.calculus.specs.Rows.{Row}
use Rattle.calculus.specs.Unfolding.{rows_of}
use Rattle.calculus.specs.Runs.{Deploy, Work, work_products, work_price, work_fault, Verdict, done, exhausted, faulted, at_fault}
use Rattle.events.specs.Found.{without}

-- what a deploy has come to: the rows that are stored, the operations that are pending, the steps made, all rows that the source and the bodies of the steps offered, in order, and what was printed
pub record Space : Type 0 where
  pub store : List Row
  pub pending : List Row
  pub made : List Step
  pub offered : List Row
  pub output : List ℕ

-- the space of a deploy before its first entry, where the source comes to this work
abbrev pub first_space : Deploy → Work → Space
first_space deploy w = record { store = deploy.rows; pending = rows_of (work_products w); made = []; offered = rows_of (work_products w); output = [] }

-- a step that an operation made: the ids of the rows that leave, the rows that the body offers, the price of the step with its body, the fault of the body, and the line that is printed, empty unless the receiver is a built-in one
pub record Making : Type 0 where
  pub step : Step
  pub gone : List (List ℕ)
  pub offers : List Row
  pub price : ℕ
  pub fault : Option FaultKind
  pub line : List ℕ

-- an entry: an operation, and the step that it made; without one it was stored
pub record Entry : Type 0 where
  pub operation : Row
  pub making : Option Making

-- the rows before the first one with this id
abbrev pub rows_before : List ℕ → List Row → List Row
rows_before x [] = []
rows_before x (r ∷ rs) = cond (bytes_eq x r.id) [] (r ∷ rows_before x rs)

-- the rows after the first one with this id
abbrev pub rows_after : List ℕ → List Row → List Row
rows_after x [] = []
rows_after x (r ∷ rs) = cond (bytes_eq x r.id) rs (rows_after x rs)

-- the rows that an entry offers
abbrev pub offers_in : Option Making → List Row
offers_in None = []
offers_in (Some a) = a.offers

-- what an entry leaves of its operation: it is pending still where it made a step and does not leave
abbrev pub left_in : Row → Option Making → List Row
left_in o None = []
left_in o (Some a) = without a.gone (o ∷ [])

-- the operations that are pending after an operation was stored, or made this step: it is taken out, or stands still if it stays, and what its body offers comes behind it
abbrev pub pending_after : List Row → Row → Option Making → List Row
pending_after pending o x = rows_before o.id pending ++ ((left_in o x ++ offers_in x) ++ rows_after o.id pending)

-- the space after an operation was stored, or made this step, by which the rows leave whose ids are gone
abbrev pub space_after : Space → Row → Option Making → Space
space_after space o None = record { store = space.store ++ o ∷ []; pending = pending_after space.pending o None; made = space.made; offered = space.offered; output = space.output }
space_after space o (Some a) =
    record {
      store = without a.gone space.store;
      pending = pending_after space.pending o (Some a);
      made = space.made ++ a.step ∷ [];
      offered = space.offered ++ a.offers;
      output = space.output ++ a.line;
    }

-- the space after an entry
abbrev pub after : Space → Entry → Space
after space e = space_after space e.operation e.making

-- the space after a list of entries
abbrev pub after_all : Space → List Entry → Space
after_all space [] = space
after_all space (e ∷ es) = after_all (after space e) es

-- the step that was made, if one was
abbrev pub steps_in : Option Making → List Step
steps_in None = []
steps_in (Some a) = a.step ∷ []

-- the steps of these entries
abbrev pub steps_of : List Entry → List Step
steps_of [] = []
steps_of (e ∷ es) = steps_in e.making ++ steps_of es

-- the entries whose operation has this id
abbrev pub entries_on : List ℕ → List Entry → List Entry
entries_on x [] = []
entries_on x (e ∷ es) = cond (bytes_eq x e.operation.id) (e ∷ entries_on x es) (entries_on x es)

-- the price of a step that was made, if one was
abbrev pub price_in : Option Making → ℕ
price_in None = 0
price_in (Some a) = a.price

-- the prices of these entries
abbrev pub prices_of : List Entry → ℕ
prices_of [] = 0
prices_of (e ∷ es) = price_in e.making + prices_of es

-- the fault of a step that was made, if one was
abbrev pub faults_in : Option Making → List (Option FaultKind)
faults_in None = []
faults_in (Some a) = a.fault ∷ []

-- the faults of these entries' steps, one for each step
abbrev pub faults_of : List Entry → List (Option FaultKind)
faults_of [] = []
faults_of (e ∷ es) = faults_in e.making ++ faults_of es

-- the line that a step prints, if one was made
abbrev pub line_in : Option Making → List ℕ
line_in None = []
line_in (Some a) = a.line

-- the lines that these entries' steps print
abbrev pub lines_of : List Entry → List ℕ
lines_of [] = []
lines_of (e ∷ es) = line_in e.making ++ lines_of es

-- the verdict of the first fault among these, of which the first is that of work number i
abbrev pub first_fault : ℕ → List (Option FaultKind) → Verdict
first_fault i [] = done
first_fault i (f ∷ fs) = at_fault i f (first_fault (suc i) fs)

-- the first verdict, unless it is done
abbrev pub verdict_or : Verdict → Verdict → Verdict
verdict_or done v = v
verdict_or (faulted i f) v = faulted i f
verdict_or exhausted v = exhausted

-- the rows that a deploy with this verdict leaves: the old ones, or those that are stored in this space where it is done
abbrev pub left_rows : Deploy → Verdict → Space → List Row
left_rows deploy done space = space.store
left_rows deploy _ space = deploy.rows

-- the price of the source's work and of these entries
abbrev pub total_of : Deploy → Work → List Entry → ℕ
total_of deploy source entries = work_price deploy.limit source + prices_of entries

-- the verdict of a deploy whose source came to this work and that made these entries
abbrev pub verdict_of : Deploy → Work → List Entry → Verdict
verdict_of deploy source entries = cond (ltb deploy.limit (total_of deploy source entries)) exhausted (first_fault 0 (work_fault source ∷ faults_of entries))

-- what it costs
abbrev pub cost_of : Deploy → Work → List Entry → ℕ
cost_of deploy source entries = cond (ltb deploy.limit (total_of deploy source entries)) deploy.limit (total_of deploy source entries)
