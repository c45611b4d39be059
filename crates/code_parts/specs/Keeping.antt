-- Why what was read is not added.
use Rattle.std.specs.Prelude.{◌≡◌, ℕ, Bool, true, List, ◌++◌, length}
use Rattle.calculus.specs.Order.{up_to}
use Rattle.code_faults.specs.declared.fault.ReadFault.{ReadFault}
use Rattle.code_faults.specs.declared.fault.ReadFault.TheVariants as fault
use Rattle.code_faults.specs.Beginning.{IsAt}
use Rattle.code_faults.specs.Refusing.{RefusesRest}
use Rattle.code_faults.specs.Blaming.{Wrong, InRest}

-- the code that was read since `start` falls below the one before it
pub record IsFallen (last start left : List ℕ) (e : ReadFault) : Type 0 where
  pub place : e ≡ fault.NotCanonical (length start)
  pub down : (d : List ℕ) → start ≡ d ++ left → up_to last d ≡ true → ⊥

-- no remainder stands there
pub record IsNoRest (binds : Bool) (bs : List ℕ) (e : ReadFault) : Type 0 where
  pub wrong : Wrong (InRest binds) e bs
  pub refuses : RefusesRest binds e bs
  pub place : IsAt e bs
