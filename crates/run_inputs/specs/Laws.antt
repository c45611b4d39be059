-- Laws of states. Each stands in the contract of a public function that does nothing.
use Rattle.std.specs.Prelude.{◌≡◌, ◌<◌, ◌^◌, ℕ, List, length}
use Rattle.calculus.specs.Rows.{Row}
use Rattle.input_faults.specs.declared.state_fault.StateFault.{StateFault}
use Rattle.run_inputs.specs.Bases.{IsStateOf, IsState, HasOwnIds, IsNoState}

-- bytes are the state of one list of rows alone
abbrev pub OneState : Type 0
OneState = (bytes : List ℕ) (rows others : List Row) → IsStateOf bytes rows → IsStateOf bytes others → rows ≡ others

-- where no row of a state has the id of a built-in receiver, there is no fault for which its bytes are no state
abbrev pub StatesAreNotRefused : Type 0
StatesAreNotRefused = (bytes : List ℕ) → length bytes < 2 ^ 32 → IsState bytes → HasOwnIds bytes → (f : StateFault) → IsNoState bytes f → ⊥
