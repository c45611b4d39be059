-- Unfolding under way: what was offered, and what is left.
use Rattle.std.specs.Prelude.{◌≡◌, ◌≤◌, ℕ, suc, List, [], ◌∷◌, ◌++◌, All, map as each, reverse}
use Rattle.calculus.specs.Tree.{Tree}
use Rattle.calculus.specs.Shape.{only, held}
use Rattle.calculus.specs.Form.{IsClosed}
use Rattle.calculus.specs.Seeds.{digest_of, Split}
use Rattle.calculus.specs.Outcome.{Prices, Answer, gives, fails, unknown, Outcome, pure, charged, after}
use Rattle.calculus.specs.Rows.{Row}
use Rattle.calculus.specs.Unfolding.{Product, rows_of, unfold_part, unfold_in}
use Rattle.calculus.proofs.Room.{Refines}
use Rattle.price_table.specs.declared.stop.EvalStop.{EvalStop}
use Rattle.price_table.specs.Outcomes.{Stopped}
use Rattle.rho_term.specs.Normal.{IsOrdered}
use Rattle.rho_term.specs.Parts.{part_tree}
use Rattle.rho_term.specs.Rows.{row_of_op}
use Rattle.unfold.specs.declared.turns.Todo.{Todo}
use Rattle.unfold.specs.declared.turns.Work.{Work}

-- a part that is still to be unfolded, and its seed
pub record Pending : Type 0 where
  pub part : Tree
  pub seed : List ℕ

-- these parts with their seeds, the first of them part number i under this seed
abbrev pub pending_from : List ℕ → ℕ → List Tree → List Pending
pending_from s i [] = []
pending_from s i (t ∷ ts) = record { part = t; seed = digest_of (Split s i) } ∷ pending_from s (suc i) ts

-- the parts of a process with their seeds
abbrev pub pending : Tree → List ℕ → List Pending
pending t s = pending_from s 0 (held t)

-- what is known of a part that is left: it is closed and in normal order
pub record IsReady (w : Pending) : Type 0 where
  pub closed : IsClosed (only w.part)
  pub ordered : IsOrdered w.part

-- an answer's rows
abbrev pub rows_answer : Answer (List Product) → Answer (List Row)
rows_answer (gives ts) = gives (rows_of ts)
rows_answer (fails f) = fails f
rows_answer unknown = unknown

-- work, seen as the rows that it offers
abbrev pub row_work : Outcome (List Product) → Outcome (List Row)
row_work o = record { price = o.price; answer = rows_answer o.answer }

-- what these parts offer in turn, where at most `room` processes are unfolded inside one another
abbrev pub left_work : Prices → ℕ → List Pending → Outcome (List Row)
left_work p room [] = pure []
left_work p room (w ∷ ws) = after (row_work (unfold_part p (unfold_in p room) w.seed w.part)) (λ rs. after (left_work p room ws) (λ qs. pure (rs ++ qs)))

-- the price so far, the rows that were offered, and the parts that are left, the next one first
pub record Progress : Type 0 where
  pub price : ℕ
  pub rows : List Row
  pub left : List Pending

-- what it comes to with what is left
abbrev pub whole_work : Prices → ℕ → Progress → Outcome (List Row)
whole_work p room a = charged a.price (after (left_work p room a.left) (λ rs. pure (a.rows ++ rs)))

-- whatever is known of the second with some room is so of the first with some room
abbrev pub LeadsTo : Prices → Progress → Progress → Type 0
LeadsTo p a b = (room : ℕ) → (n : ℕ) × Refines (whole_work p room b) (whole_work p n a)

-- the first led to the second, whose price does not pass the cap and whose parts are ready
pub record Advances (p : Prices) (cap : ℕ) (a b : Progress) : Type 0 where
  pub leads : LeadsTo p a b
  pub fits : b.price ≤ cap
  pub ready : All IsReady b.left

-- it stops, with some room
abbrev pub StopsWith : Prices → ℕ → Progress → EvalStop → Type 0
StopsWith p cap a e = (room : ℕ) × Stopped cap 0 (whole_work p room a) e

-- it comes to these rows at this price, with some room
pub record Ends (p : Prices) (cap : ℕ) (a : Progress) (price : ℕ) (rows : List Row) : Type 0 where
  pub room : ℕ
  pub work : whole_work p room a ≡ record { price = price; answer = gives rows }
  pub fits : price ≤ cap

-- the same with one more part, which comes first
abbrev pub with_part : Pending → Progress → Progress
with_part w a = record { price = a.price; rows = a.rows; left = w ∷ a.left }

-- a part of the program that is to be unfolded, as that
abbrev pub pending_of : Todo → Pending
pending_of d = record { part = part_tree d.part; seed = digest_of (Split d.under d.number) }

-- the program's list of parts, whose last one is next
abbrev pub in_turn : List Todo → List Pending
in_turn ds = reverse (each pending_of ds)

-- the program's work as that
abbrev pub progress : Work → Progress
progress w = record { price = w.price; rows = each row_of_op w.offers.items; left = in_turn w.left.items }
