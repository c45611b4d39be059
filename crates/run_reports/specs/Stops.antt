-- What is left where the last steps of a verb stop on their way.
use Rattle.std.specs.Prelude.{◌≡◌, ◌⊎◌, ℕ, List, Option}
use Rattle.std.specs.Borrow.{Bor}
use Rattle.rho_outside.specs.Causes.{Rose}
use Rattle.rho_outside.specs.FileMap.{FileMap}
use Rattle.rho_outside.specs.Put.{GrewByPart}
use Rattle.rho_outside.specs.Kept.{with_files, PrefixSet, PartSet}
use Rattle.run_reports.specs.World.{World}

-- some of these entries were set, from the counts of failed keeps before and after: the first so many of them, and where a keep failed maybe something under the name of the next one
pub record AreSetInPart (entries : List (List ℕ × List ℕ)) (old new : Option FileMap) (faults_before faults_after : ℕ) : Type 0 where
  pub part : PartSet entries old new
  pub prefix : ¬ (Rose faults_before faults_after) → PrefixSet entries old new

-- all these entries were set between two moments of a shelf, which tells its files
abbrev pub SetsAll : {S : Type 0} → List (List ℕ × List ℕ) → (S → Option FileMap) → S → S → Type 0
SetsAll entries files before after = files after ≡ with_files entries (files before)

-- some of these entries were set between two moments of a shelf, which tells its files and its count of failed keeps
abbrev pub SetsInPart : {S : Type 0} → List (List ℕ × List ℕ) → (S → Option FileMap) → (S → ℕ) → S → S → Type 0
SetsInPart entries files keep_faults before after = AreSetInPart entries (files before) (files after) (keep_faults before) (keep_faults after)

-- from one world to the next the writing of these entries and then of these bytes stopped on its way: before anything was put, or at the put, with all entries set
abbrev pub StopsOnTheWay : List (List ℕ × List ℕ) → List ℕ → World → World → Type 0
StopsOnTheWay entries bytes a b =
    (AreSetInPart entries a.files b.files a.keeps b.keeps × (b.bytes ≡ a.bytes))
    ⊎ ((b.files ≡ with_files entries a.files) × GrewByPart bytes a.bytes b.bytes)

-- a file, which is its name and its bytes
abbrev pub file_of : Bor (List ℕ) × Bor (List ℕ) → List ℕ × List ℕ
file_of f = (f.0.now, f.1.now)

-- a keep or a put failed: the count of failed keeps of a shelf rose between two moments, or that of failed puts of an output
abbrev pub WriteFailed : {S O : Type 0} → (S → ℕ) → S → S → (O → ℕ) → O → O → Type 0
WriteFailed keep_faults shelf_before shelf_after put_faults out_before out_after =
    Rose (keep_faults shelf_before) (keep_faults shelf_after) ⊎ Rose (put_faults out_before) (put_faults out_after)
