-- Laws of rows that may be stored. Each stands in the contract of a public function that does nothing.
use Rattle.std.specs.Prelude.{◌≡◌, ◌≤◌, ⊤, ℕ, false, List, [], ◌∷◌, length, Some, All}
use Rattle.calculus.specs.Tree.{Tree}
use Rattle.calculus.specs.Shape.{only}
use Rattle.calculus.specs.Form.{IsClosed}
use Rattle.calculus.specs.Congruence.{congruent}
use Rattle.calculus.specs.Code.{code}
use Rattle.calculus.specs.Substitution.{put}
use Rattle.calculus.specs.Outcome.{Prices}
use Rattle.calculus.specs.Log.{Step}
use Rattle.calculus.specs.Rows.{Row, row_code, row_length, channels, stdout, stdout_ack}
use Rattle.calculus.specs.Storing.{IsStorable}
use Rattle.calculus.specs.Unfolding.{rows_of, Unfolds, UnfoldsUnder}
use Rattle.calculus.specs.Steps.{Bag, stored_rows, PlacedRow, Meeting, meet_rows, meeting}
use Rattle.calculus.specs.Runs.{Deploy, Work, work_products, State, Leads}
use Rattle.process_laws.specs.ClosedRowLaws.{AreClosedRows}

-- each of these rows may be stored
abbrev pub AreStorable : List Row → Type 0
AreStorable rs = All IsStorable rs

-- a channel is congruent to none of these
abbrev pub IsApart : Tree → List Tree → Type 0
IsApart c [] = ⊤
IsApart c (d ∷ ds) = (congruent c d ≡ false) × IsApart c ds

-- no channel is congruent to a later one
abbrev pub AreApart : List Tree → Type 0
AreApart [] = ⊤
AreApart (c ∷ cs) = IsApart c cs × AreApart cs

-- what a closed process offers may be stored, and so may what a body offers that is closed under its values
pub record OffersAreStorable : Type 0 where
  pub process : (p : Prices) (cap : ℕ) (t : Tree) (s : List ℕ) (w : Work) → IsClosed t → Unfolds p cap t s w → AreStorable (rows_of (work_products w))
  pub body : (p : Prices) (cap : ℕ) (vs : List Tree) (t : Tree) (s : List ℕ) (w : Work) → IsClosed (put vs t) → UnfoldsUnder p cap vs t s w → AreStorable (rows_of (work_products w))

-- what the body of a meeting offers under its bindings may be stored: of an allowed step in a bag whose rows may be stored, and of any such rows that meet
pub record BodiesOfferStorableRows : Type 0 where
  pub of_step : (b : Bag) (made : List Step) (s : Step) (m : Meeting) → AreStorable (stored_rows b) → meeting b made s ≡ Some m
      → (p : Prices) (cap : ℕ) (seed : List ℕ) (w : Work) → UnfoldsUnder p cap m.bindings m.receiver.body seed w → AreStorable (rows_of (work_products w))
  pub of_rows : (hs : List PlacedRow) (m : Meeting) → All (λ h. IsStorable h.1) hs → meet_rows hs ≡ Some m
      → (p : Prices) (cap : ℕ) (seed : List ℕ) (w : Work) → UnfoldsUnder p cap m.bindings m.receiver.body seed w → AreStorable (rows_of (work_products w))

-- from rows that may be stored and a closed process, the rows of each state that a list of steps leads to may be stored
abbrev pub StorableRowsStay : Type 0
StorableRowsStay = (d : Deploy) → AreStorable d.rows → IsClosed d.process → (ss : List Step) (a : State) → Leads d ss a → AreStorable (stored_rows a.bag)

-- the built-in receivers meet the conditions of rows that may be stored
abbrev pub BuiltInReceiversAreStorable : Type 0
BuiltInReceiversAreStorable = AreStorable (stdout ∷ stdout_ack ∷ [])

-- rows that may be stored are closed
abbrev pub StorableRowsAreClosed : Type 0
StorableRowsAreClosed = (rs : List Row) → AreStorable rs → AreClosedRows rs

-- the code of a row that may be stored, and of its part as a process, has 1,048,576 bytes at most
abbrev pub StorableRowsAreShort : Type 0
StorableRowsAreShort = (r : Row) → IsStorable r → (length (row_code r) ≤ 1048576) × (length (code (only r.part)) ≤ 1048576)

-- no two channels of a row that may be stored are congruent
abbrev pub StorableChannelsAreApart : Type 0
StorableChannelsAreApart = (r : Row) → IsStorable r → AreApart (channels r.part)

-- the rows that any process offers, and any body under any values, are within the limit on their length
pub record OffersAreShort : Type 0 where
  pub process : (p : Prices) (cap : ℕ) (t : Tree) (s : List ℕ) (w : Work) → Unfolds p cap t s w → All (λ r. row_length r ≤ 1048576) (rows_of (work_products w))
  pub body : (p : Prices) (cap : ℕ) (vs : List Tree) (t : Tree) (s : List ℕ) (w : Work) → UnfoldsUnder p cap vs t s w → All (λ r. row_length r ≤ 1048576) (rows_of (work_products w))
