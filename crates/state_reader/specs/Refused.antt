-- Why bytes are no state.
use Rattle.std.specs.Prelude.{◌≡◌, ℕ, ◌<◌, ◌^◌, ⊤, List, length, map as each}
use Rattle.input_faults.specs.declared.state_fault.StateFault.{StateFault}
use Rattle.input_faults.specs.declared.state_fault.StateFault.TheVariants as fault
use Rattle.state_reader.specs.Files.{EndsEarly, HasOtherRoot, IsReducible, IsWrongAt}

-- why bytes are no state, a line for each fault
abbrev pub IsRefused : List ℕ → StateFault → Type 0
IsRefused bs (fault.Short at) = (at ≡ length bs) × EndsEarly bs
IsRefused bs (fault.NotCanonical at) = length bs < 2 ^ 32 → IsWrongAt at bs
IsRefused bs (fault.WrongRoot stored found) = HasOtherRoot bs stored.0 found.0
IsRefused bs (fault.Reducible cont taken) = IsReducible bs cont.0 (each (λ d. d.0) taken.items)
IsRefused bs fault.NoMemory = ⊤
