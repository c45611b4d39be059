-- What is found in the words, before it is told.
use Rattle.std.specs.Prelude.{◌≡◌, ⊤, Result, Ok, Err}
use Rattle.command_words.specs.Arguments.{name_of}
use Rattle.command_words.specs.Commands.{Refusal, bad_number, missing, same_file, surplus, unknown_verb}
use Rattle.command_words.specs.declared.fault.Fault.{Fault}
use Rattle.command_words.specs.declared.fault.Fault.TheVariants.{BadNumber, Missing, NoMemory, SameFile, Surplus, UnknownVerb}

-- the fault is this refusal, or memory ran out
abbrev pub Tells : {Y : Type 0} → Fault → Result Y Refusal → Type 0
Tells (UnknownVerb verb) said = said ≡ Err (unknown_verb verb.now)
Tells (Missing what) said = said ≡ Err (missing (name_of what))
Tells (Surplus what) said = said ≡ Err (surplus (name_of what))
Tells (BadNumber what) said = said ≡ Err (bad_number (name_of what))
Tells SameFile said = said ≡ Err same_file
Tells NoMemory said = ⊤

-- what is found, seen so, is what is said, unless memory ran out
abbrev pub FindsAs : {X Y : Type 0} → (X → Y) → Result X Fault → Result Y Refusal → Type 0
FindsAs view (Ok x) said = said ≡ Ok (view x)
FindsAs view (Err f) said = Tells f said

-- what is found is what is said, unless memory ran out
abbrev pub Finds : {Y : Type 0} → Result Y Fault → Result Y Refusal → Type 0
Finds result said = FindsAs (λ x. x) result said
