-- The state that a run starts from.
use Rattle.std.specs.Prelude.{◌≡◌, ◌≢◌, true, ℕ, List, All}
use Rattle.calculus.specs.Rows.{Row}
use Rattle.calculus.specs.Steps.{differ}
use Rattle.checkpoint.specs.Kept.{AreKept}
use Rattle.events.specs.Events.{first_ids}
use Rattle.rho_term.specs.Normal.{IsNormal}
use Rattle.events.specs.States.{state_text}
use Rattle.input_faults.specs.declared.state_fault.StateFault.{StateFault}
use Rattle.input_faults.specs.declared.state_fault.StateFault.TheVariants.{NoMemory}
use Rattle.state_reader.specs.Refused.{IsRefused}

-- these rows are in normal order: parts, and members of sets and maps, ascend in their codes wherever they stand in them
abbrev pub AreNormalRows : List Row → Type 0
AreNormalRows rows = All (λ r. IsNormal r.part) rows

-- bytes are the state of these rows: they are their text, and the rows are in normal order and may be kept, so each is storable, their codes ascend, their ids differ, and they allow no step
pub record IsStateOf (bytes : List ℕ) (rows : List Row) : Type 0 where
  pub text : bytes ≡ state_text rows
  pub kept : AreKept rows
  pub normal : AreNormalRows rows

-- bytes are a state
abbrev pub IsState : List ℕ → Type 0
IsState bytes = (rows : List Row) × IsStateOf bytes rows

-- if bytes are a state, none of its rows has the id of a built-in receiver
abbrev pub HasOwnIds : List ℕ → Type 0
HasOwnIds bytes = (rows : List Row) → IsStateOf bytes rows → differ (first_ids rows) ≡ true

-- bytes are no state, and this is the fault
abbrev pub IsNoState : List ℕ → StateFault → Type 0
IsNoState bytes f = (f ≢ NoMemory) × IsRefused bytes f
