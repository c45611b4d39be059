-- Causes of a stop, and the stop word.
use Rattle.std.specs.Prelude.{◌≡◌, ℕ, ◌==◌, Bool, true, cond, List, Option, None, Some, slice_get}
use Rattle.hub_rule.specs.declared.terms.StopCause.{StopCause}
use Rattle.hub_rule.specs.declared.terms.StopCause.TheVariants.{Fault, NoMemory}

-- the stop word of a cause
abbrev pub code_of : StopCause → ℕ
code_of Fault = 2
code_of NoMemory = 1

-- the cause of a stop word: none for 0
abbrev pub cause_at : ℕ → Option StopCause
cause_at n = cond (n == 0) None (cond (n == 1) (Some NoMemory) (Some Fault))

-- one of these entries is a fault
abbrev pub FaultOf : {E : Type 0} → (E → Bool) → List E → Type 0
FaultOf {E = E} faults es = (n : ℕ) × (e : E) × (slice_get es n ≡ Some e) × (faults e ≡ true)

-- where the cause is a fault, one of these entries is one
abbrev pub FaultCause : {E : Type 0} → (E → Bool) → Option StopCause → List E → Type 0
FaultCause faults cause es = cause ≡ Some Fault → FaultOf faults es

-- one of these numbered entries is a fault
abbrev pub HasFault : {E : Type 0} → (E → Bool) → List (ℕ × E) → Type 0
HasFault {E = E} faults es = (k : ℕ) × (p : ℕ × E) × (slice_get es k ≡ Some p) × (faults p.1 ≡ true)
