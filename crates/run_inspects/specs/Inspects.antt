-- What is promised of the showing of a state.
use Rattle.std.specs.Prelude.{◌≡◌, ◌⊎◌, ◌<◌, ◌≤◌, ℕ, List, length, Option, Some, ⊤}
use Rattle.calculus.specs.Rows.{Row}
use Rattle.rho_outside.specs.Causes.{Rose}
use Rattle.rho_outside.specs.FileMap.{FileMap, Gives, GivesAtLeast, Lacks}
use Rattle.rho_outside.specs.Put.{GrewBy, GrewByPart}
use Rattle.rho_outside.specs.Told.{Told}
use Rattle.input_faults.specs.declared.state_fault.StateFault.{StateFault}
use Rattle.run_inputs.specs.Bases.{HasOwnIds, IsNoState, IsState, IsStateOf}
use Rattle.run_reports.specs.World.{World}
use Rattle.run_status.specs.Endings.{OnHalt, OnRefusal}
use Rattle.run_status.specs.declared.status.Input.TheVariants as input
use Rattle.run_status.specs.declared.status.Status.{Status}
use Rattle.run_status.specs.declared.status.Status.TheVariants.{Done, NoMemory, ReadFault, State, TooLarge, WriteFault}
use Rattle.run_inspects.specs.Listing.{listing}

-- the greatest number of bytes of a state
abbrev pub most : ℕ
most = 268435456

-- these bytes are no more than a state may have, and where files are told the file of this name has them
pub record AreGiven (told : Option FileMap) (name bytes : List ℕ) : Type 0 where
  pub gives : Gives told name bytes
  pub within : length bytes ≤ most

-- the file has the state of these rows
abbrev pub HasRows : Option FileMap → List ℕ → List Row → Type 0
HasRows told name rows = (bytes : List ℕ) × (AreGiven told name bytes × IsStateOf bytes rows)

-- the file has the state of some rows, and this holds of them
abbrev pub WithRows : Option FileMap → List ℕ → (List Row → Type 0) → Type 0
WithRows told name P = (rows : List Row) × (HasRows told name rows × P rows)

-- the file has bytes that are no state, and this is the fault
abbrev pub HasNoState : Option FileMap → List ℕ → StateFault → Type 0
HasNoState told name f = (bytes : List ℕ) × (AreGiven told name bytes × IsNoState bytes f)

-- why the file is refused, from the counts of failed fetches before and after: it could not be fetched, or the told files lack it; it is larger than a state may be; its bytes are no state, with this fault; or memory is wanted
abbrev pub RefusedFor : Option FileMap → List ℕ → ℕ → ℕ → Status → Type 0
RefusedFor told name before now (ReadFault i) = (i ≡ input.State) × (Rose before now ⊎ Lacks told name)
RefusedFor told name before now (TooLarge i seen max) = (i ≡ input.State) × ((max ≡ most) × ((most < seen) × GivesAtLeast told name seen))
RefusedFor told name before now (State f) = HasNoState told name f
RefusedFor told name before now NoMemory = ⊤
RefusedFor told name before now _ = ⊥

-- the cause of an end: where it is done or a write failed the state was read, and else the file is refused
abbrev pub InspectEnds : Option FileMap → List ℕ → ℕ → ℕ → Status → Type 0
InspectEnds told name before now Done = WithRows told name (λ rows. ⊤)
InspectEnds told name before now WriteFault = WithRows told name (λ rows. ⊤)
InspectEnds told name before now s = RefusedFor told name before now s

-- a status says that the file is missing; want of memory may stand in its place
abbrev pub SaysMissing : Status → Type 0
SaysMissing (ReadFault i) = i ≡ input.State
SaysMissing NoMemory = ⊤
SaysMissing _ = ⊥

-- the same, that the file is too large
abbrev pub SaysTooLarge : Status → Type 0
SaysTooLarge (TooLarge i seen max) = i ≡ input.State
SaysTooLarge NoMemory = ⊤
SaysTooLarge _ = ⊥

-- the same, that these bytes are no state, with a fault that they have
abbrev pub SaysNoState : List ℕ → Status → Type 0
SaysNoState bytes (State f) = IsNoState bytes f
SaysNoState bytes NoMemory = ⊤
SaysNoState bytes _ = ⊥

-- the told file of this name has bytes for which this holds, if it is there
abbrev pub OnBytes : Option FileMap → List ℕ → (List ℕ → Type 0) → Type 0
OnBytes told name P = Told told (λ files. (bytes : List ℕ) → files name ≡ Some bytes → P bytes)

-- what the told file of this name holds is said: that it is missing, that it is too large, or that its bytes are no state; and a state is shown, or memory is wanted, where no fetch and no put failed. A state here has no row with the id of a built-in receiver
pub record InspectIsExact (name : List ℕ) (a b : World) (s : Status) : Type 0 where
  pub missing : Lacks a.files name → SaysMissing s
  pub large : ¬ (Rose a.fetches b.fetches) → OnBytes a.files name (λ bytes. most < length bytes → SaysTooLarge s)
  pub no_state : ¬ (Rose a.fetches b.fetches) → OnBytes a.files name (λ bytes. length bytes ≤ most → HasOwnIds bytes → (f : StateFault) → IsNoState bytes f → SaysNoState bytes s)
  pub complete : ¬ (Rose a.fetches b.fetches) → ¬ (Rose a.puts b.puts) → OnBytes a.files name (λ bytes. length bytes ≤ most → HasOwnIds bytes → IsState bytes → (s ≡ Done) ⊎ (s ≡ NoMemory))

-- the output grew by the listing of the state in this file
abbrev pub Shows : Option FileMap → List ℕ → Option (List ℕ) → Option (List ℕ) → Type 0
Shows told name before after = WithRows told name (λ rows. GrewBy (listing rows) before after)

-- nothing was put, or a part of that listing
abbrev pub ShowsInPart : Option FileMap → List ℕ → Option (List ℕ) → Option (List ℕ) → Type 0
ShowsInPart told name before after = (after ≡ before) ⊎ WithRows told name (λ rows. GrewByPart (listing rows) before after)

-- the showing of the state in a file, from one world to the next: each end has its cause, and what the file holds is said; no file changes; where it is done the output grew by the listing of the file's state, and where it stopped on its way by a part of that, or nothing was put; a refusal puts nothing; and a write fault comes only where a put failed
pub record IsInspect (name : List ℕ) (a b : World) (s : Status) : Type 0 where
  pub ends : InspectEnds a.files name a.fetches b.fetches s
  pub is_exact : InspectIsExact name a b s
  pub files : b.files ≡ a.files
  pub keeps : b.keeps ≡ a.keeps
  pub stays : OnRefusal s (b.bytes ≡ a.bytes)
  pub all : s ≡ Done → Shows a.files name a.bytes b.bytes
  pub part : OnHalt s (ShowsInPart a.files name a.bytes b.bytes)
  pub write_fault : s ≡ WriteFault → Rose a.puts b.puts
