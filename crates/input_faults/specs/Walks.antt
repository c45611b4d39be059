-- What the calls of the walk over a process answer.
use Rattle.std.specs.Prelude.{◌≡◌, List, [], Result, Ok, Err}
use Rattle.scope.specs.Rules.{Broken}
use Rattle.input_faults.specs.declared.fault.ScopeFault.{ScopeFault}
use Rattle.input_faults.specs.Faults.{IsRefusal}

-- an answer to what breaks these rules: a value where it breaks none, and else a refusal
abbrev pub Judges : {A : Type 0} → Result A ScopeFault → List Broken → Type 0
Judges (Ok a) bs = bs ≡ []
Judges (Err e) bs = IsRefusal e bs
