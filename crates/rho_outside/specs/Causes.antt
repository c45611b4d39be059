-- When a call to the outside may fail, and what it does to a count of failures.
use Rattle.std.specs.Prelude.{◌≡◌, ℕ, ◌+◌, ◌-◌, ◌^◌, ◌<◌, ◌≤◌, ◌⊎◌, min, List, Option, Result, Ok, Err}
use Rattle.rho_outside.specs.FileMap.{FileMap, Lacks, GivesAtLeast}
use Rattle.rho_outside.specs.declared.fault.FetchFault.{FetchFault}
use Rattle.rho_outside.specs.declared.fault.FetchFault.TheVariants.{Missing, Failed, TooLarge, NoMemory}
use Rattle.rho_outside.specs.declared.fault.KeepFault.{KeepFault}
use Rattle.rho_outside.specs.declared.fault.KeepFault.TheVariants as keep

-- one more than a count, which stands still at the greatest u64
abbrev pub next_count : ℕ → ℕ
next_count n = min (n + 1) (2 ^ 64 - 1)

-- a count rose, or stands at the greatest u64
abbrev pub Rose : ℕ → ℕ → Type 0
Rose before now = next_count before ≤ now

-- why a fetch of a name with a limit may fail
abbrev pub FetchCause : Option FileMap → List ℕ → ℕ → ℕ → ℕ → FetchFault → Type 0
FetchCause told name max before now Missing = Rose before now ⊎ Lacks told name
FetchCause told name max before now Failed = Rose before now
FetchCause told name max before now (TooLarge seen) = (max < seen) × GivesAtLeast told name seen
FetchCause told name max before now NoMemory = Unit {0}

-- why a keep or a put may fail
abbrev pub KeepCause : ℕ → ℕ → KeepFault → Type 0
KeepCause before now keep.Failed = Rose before now
KeepCause before now keep.NoMemory = Unit {0}

-- a size that a fetch answers is one more than the limit
abbrev pub IsOnePast : ℕ → FetchFault → Type 0
IsOnePast max Missing = Unit {0}
IsOnePast max Failed = Unit {0}
IsOnePast max (TooLarge seen) = seen ≡ max + 1
IsOnePast max NoMemory = Unit {0}

-- the count after a fetch from the system: an absent file and a failure add one
abbrev pub count_after_fetch : {A : Type 0} → Result A FetchFault → ℕ → ℕ
count_after_fetch (Ok _) n = n
count_after_fetch (Err Missing) n = next_count n
count_after_fetch (Err Failed) n = next_count n
count_after_fetch (Err (TooLarge _)) n = n
count_after_fetch (Err NoMemory) n = n

-- the count after a keep or a put: a failure adds one
abbrev pub count_after_keep : {A : Type 0} → Result A KeepFault → ℕ → ℕ
count_after_keep (Ok _) n = n
count_after_keep (Err keep.Failed) n = next_count n
count_after_keep (Err keep.NoMemory) n = n
