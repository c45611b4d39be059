-- Laws of closed rows. Each stands in the contract of a public function that does nothing.
use Rattle.std.specs.Prelude.{◌≡◌, ⊤, ℕ, List, [], ◌∷◌, Some}
use Rattle.calculus.specs.declared.plain.Kind.{Kind}
use Rattle.calculus.specs.Tree.{row, receive, Tree}
use Rattle.calculus.specs.Shape.{two, many}
use Rattle.calculus.specs.Form.{part, Fits, IsClosed}
use Rattle.calculus.specs.Substitution.{put}
use Rattle.calculus.specs.Outcome.{Prices}
use Rattle.calculus.specs.Log.{Step}
use Rattle.calculus.specs.Rows.{Row}
use Rattle.calculus.specs.Unfolding.{rows_of, Unfolds, sorted_receive}
use Rattle.calculus.specs.Steps.{Bag, stored_rows, Meeting, meeting}
use Rattle.calculus.specs.Runs.{Deploy, Work, work_products, State, Leads}

-- the part of each of these rows is a part of a closed process
abbrev pub AreClosedRows : List Row → Type 0
AreClosedRows [] = ⊤
AreClosedRows (r ∷ rs) = Fits part [] r.part × AreClosedRows rs

-- a closed receive is closed with its binds in the order of their channels' codes
abbrev pub SortedReceivesAreClosed : Type 0
SortedReceivesAreClosed = (k : Kind) (bs : List Tree) (body : Tree) → Fits part [] (two (receive k) (many row bs) body) → Fits part [] (sorted_receive k bs body)

-- the rows that a closed process offers are closed
abbrev pub OffersAreClosed : Type 0
OffersAreClosed = (p : Prices) (cap : ℕ) (t : Tree) (s : List ℕ) (w : Work) → IsClosed t → Unfolds p cap t s w → AreClosedRows (rows_of (work_products w))

-- where the rows of a bag are closed, the body of each allowed step with its bindings put in is closed
abbrev pub BodiesAreClosed : Type 0
BodiesAreClosed = (b : Bag) (made : List Step) (s : Step) (m : Meeting) → AreClosedRows (stored_rows b) → meeting b made s ≡ Some m → IsClosed (put m.bindings m.receiver.body)

-- from closed rows and a closed process, the rows of each state that a list of steps leads to are closed
abbrev pub ClosedRowsStay : Type 0
ClosedRowsStay = (deploy : Deploy) → AreClosedRows deploy.rows → IsClosed deploy.process → (ss : List Step) (a : State) → Leads deploy ss a → AreClosedRows (stored_rows a.bag)
