-- What files in memory answer.
use Rattle.std.specs.Prelude.{◌≡◌, ℕ, ◌<◌, ◌≤◌, length, List, Some, None, IsSomeAnd, Result, Ok, Err, Vec}
use Rattle.std.specs.declared.alloc.Global.{Global}
use Rattle.rho_outside.specs.FileMap.{FileMap}
use Rattle.rho_outside.specs.declared.fault.FetchFault.{FetchFault}
use Rattle.rho_outside.specs.declared.fault.FetchFault.TheVariants.{Missing, Failed, TooLarge, NoMemory}

-- what a fetch from these files answers: the bytes, that there are none, or how many are too many; want of memory is free
abbrev pub FetchAnswer : FileMap → List ℕ → ℕ → Result (Vec ℕ Global) FetchFault → Type 0
FetchAnswer files name max (Ok bytes) = (files name ≡ Some bytes.items) × (length bytes.items ≤ max)
FetchAnswer files name max (Err Missing) = files name ≡ None
FetchAnswer files name max (Err Failed) = ⊥
FetchAnswer files name max (Err (TooLarge seen)) = (max < seen) × IsSomeAnd (files name) (λ bytes. length bytes ≡ seen)
FetchAnswer files name max (Err NoMemory) = Unit {0}
