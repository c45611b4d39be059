-- What is promised of the making of the empty state.
use Rattle.std.specs.Prelude.{◌≡◌, ◌⊎◌, ℕ, List, [], ◌∷◌, ◌++◌, codes, replicate, ⊤}
use Rattle.rho_outside.specs.Causes.{Rose}
use Rattle.rho_outside.specs.Put.{GrewBy}
use Rattle.rho_outside.specs.Kept.{with_files}
use Rattle.run_reports.specs.Report.{state_line}
use Rattle.run_reports.specs.Stops.{StopsOnTheWay}
use Rattle.run_status.specs.Endings.{OnHalt}
use Rattle.run_status.specs.declared.status.Status.{Status}
use Rattle.run_status.specs.declared.status.Status.TheVariants.{Done, WriteFault, NoMemory}
use Rattle.run_reports.specs.World.{World}

-- the bytes of the empty state: its name, the version, a root of zeros and no rows
abbrev pub empty_state : List ℕ
empty_state = codes "RHOSTATE" ++ (1 ∷ replicate 40 0)

-- the file that is kept: the empty state under this name
abbrev pub entries_of : List ℕ → List (List ℕ × List ℕ)
entries_of name = (name, empty_state) ∷ []

-- the line of the report: a root of zeros and no rows
abbrev pub empty_line : List ℕ
empty_line = state_line (replicate 32 0) 0

-- a status with which the making of a state ends
abbrev pub EndsGenesis : Status → Type 0
EndsGenesis Done = ⊤
EndsGenesis WriteFault = ⊤
EndsGenesis NoMemory = ⊤
EndsGenesis _ = ⊥

-- the empty state was kept under this name, and its report was put
abbrev pub FoundsAll : List ℕ → World → World → Type 0
FoundsAll name a b = (b.files ≡ with_files (entries_of name) a.files) × GrewBy empty_line a.bytes b.bytes

-- the making of the empty state from one world to the next: it is done, a write failed or memory is wanted; where it is done all is there, and where it stopped on its way, at the keep or at the put, a part; a write fault has its cause; and where nothing failed it is done, or memory is wanted
pub record IsGenesis (name : List ℕ) (a b : World) (s : Status) : Type 0 where
  pub ends : EndsGenesis s
  pub all : s ≡ Done → FoundsAll name a b
  pub part : OnHalt s (StopsOnTheWay (entries_of name) empty_line a b)
  pub write_fault : s ≡ WriteFault → Rose a.keeps b.keeps ⊎ Rose a.puts b.puts
  pub complete : ¬ (Rose a.keeps b.keeps) → ¬ (Rose a.puts b.puts) → (s ≡ Done) ⊎ (s ≡ NoMemory)
