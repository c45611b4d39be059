-- What work comes to under a cap, from a price so far.
use Rattle.std.specs.Prelude.{◌≡◌, ◌<◌, ◌≤◌, ℕ, ◌+◌, List, flat_map, ⊤}
use Rattle.calculus.specs.Tree.{Tree}
use Rattle.calculus.specs.Shape.{held}
use Rattle.calculus.specs.Outcome.{Outcome, gives, fails, Capped, over, within}
use Rattle.price_table.specs.declared.stop.EvalStop.{EvalStop}
use Rattle.price_table.specs.declared.stop.EvalStop.TheVariants.{Fault, Over, NoMemory}

-- work of this outcome gives this, and takes a price so far to this one, which does not pass the cap
pub record Came {A : Type 0} (cap from to : ℕ) (x : A) (o : Outcome A) : Type 0 where
  pub answer : o.answer ≡ gives x
  pub price : to ≡ from + o.price
  pub fits : to ≤ cap

-- work of this outcome gives processes that have these parts, one after another, and takes a price so far to this one
pub record CameFlat (cap from to : ℕ) (parts : List Tree) (o : Outcome (List Tree)) : Type 0 where
  pub whole : List Tree
  pub came : Came cap from to whole o
  pub flat : parts ≡ flat_map held whole

-- why work of this outcome stopped, from a price so far: at its first fault, or where its price passed the cap
abbrev pub Stopped : {A : Type 0} → ℕ → ℕ → Outcome A → EvalStop → Type 0
Stopped cap from o (Fault kind price) = (o.answer ≡ fails kind) × (price ≡ from + o.price) × (price ≤ cap)
Stopped cap from o Over = cap < from + o.price
Stopped cap from o NoMemory = ⊤

-- why work has no result: its first fault with its price, or that its price passed the cap; where memory ran out nothing is said
abbrev pub EndsWith : {A : Type 0} → (Capped A → Type 0) → EvalStop → Type 0
EndsWith says (Fault kind price) = says (within (record { price = price; answer = fails kind }))
EndsWith says Over = says over
EndsWith says NoMemory = ⊤
