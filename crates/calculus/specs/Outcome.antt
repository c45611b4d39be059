-- Prices, and what work comes to: its price, and a result or the first fault.
use Rattle.std.specs.Prelude.{ℕ, ◌+◌, cond, ltb, List, [], ◌∷◌, length, Option, Some, None, option_map}
use Rattle.calculus.specs.declared.fault.FaultKind.{FaultKind}
use Rattle.calculus.specs.declared.fault.FaultKind.TheVariants as fault
use Rattle.calculus.specs.Tree.{Tree}
use Rattle.calculus.specs.Size.{height}
use Rattle.calculus.specs.Code.{code}

-- the seven prices
pub record Prices : Type 0 where
  pub comm : ℕ
  pub send : ℕ
  pub receive : ℕ
  pub name : ℕ
  pub case : ℕ
  pub op : ℕ
  pub byte : ℕ

-- a result, the first fault, or that a bound on the depth of the work was reached, so that neither is known
pub data Answer (A : Type 0) : Type 0 where
  gives : A → Answer A
  fails : FaultKind → Answer A
  unknown : Answer A

-- what was added up to the end of the work, and its answer
pub record Outcome (A : Type 0) : Type 0 where
  pub price : ℕ
  pub answer : Answer A

-- work at no price
abbrev pub free : {A : Type 0} → Answer A → Outcome A
free a = record { price = 0; answer = a }

-- a result at no price
abbrev pub pure : {A : Type 0} → A → Outcome A
pure x = free (gives x)

-- a price added before the work
abbrev pub charged : {A : Type 0} → ℕ → Outcome A → Outcome A
charged n o = record { price = n + o.price; answer = o.answer }

-- after this price, the next work where there is a result
abbrev pub then_do : {A B : Type 0} → ℕ → Answer A → (A → Outcome B) → Outcome B
then_do n (gives x) next = charged n (next x)
then_do n (fails f) next = record { price = n; answer = fails f }
then_do n unknown next = record { price = n; answer = unknown }

-- one work and, where it has a result, the next
abbrev pub after : {A B : Type 0} → Outcome A → (A → Outcome B) → Outcome B
after o next = then_do o.price o.answer next

-- one work after another, up to the first fault
abbrev pub in_order : {A : Type 0} → List (Outcome A) → Outcome (List A)
in_order [] = pure []
in_order (o ∷ os) = after o (λ x. after (in_order os) (λ xs. pure (x ∷ xs)))

-- a process within the limits, or its fault: too deep, or else too big
abbrev pub within_limits : Tree → Answer Tree
within_limits t = cond (ltb 400 (height t)) (fails fault.TooDeep) (cond (ltb 1048576 (length (code t))) (fails fault.TooBig) (gives t))

-- work under a cap: its price passed the cap, or it ended before
pub data Capped (A : Type 0) : Type 0 where
  over : Capped A
  within : Outcome A → Capped A

-- an outcome with this answer, where the answer is known
abbrev pub known : {A : Type 0} → Answer A → Outcome A → Option (Outcome A)
known unknown o = None
known _ o = Some o

-- work under this cap, where it is known: each fault is tested after its price is added, so a price above the cap came before the answer
abbrev pub capped : {A : Type 0} → ℕ → Outcome A → Option (Capped A)
capped cap o = cond (ltb cap o.price) (Some over) (option_map within (known o.answer o))
