-- What a row of keeps leaves of the files that a shelf tells.
use Rattle.std.specs.Prelude.{◌≡◌, ℕ, List, [], ◌∷◌, ◌⊎◌, Option, option_map}
use Rattle.rho_outside.specs.FileMap.{FileMap, with_file, SameBut}

-- the files with all these entries, each a name and its bytes, set in turn
abbrev pub with_files : List (List ℕ × List ℕ) → Option FileMap → Option FileMap
with_files [] told = told
with_files (e ∷ es) told = with_files es (option_map (with_file e.0 e.1) told)

-- the first so many of these entries were set, maybe none or all of them
abbrev pub PrefixSet : List (List ℕ × List ℕ) → Option FileMap → Option FileMap → Type 0
PrefixSet [] old new = new ≡ old
PrefixSet (e ∷ es) old new = (new ≡ old) ⊎ PrefixSet es (option_map (with_file e.0 e.1) old) new

-- the first so many of these entries were set, and a keep of the next one may have failed
abbrev pub PartSet : List (List ℕ × List ℕ) → Option FileMap → Option FileMap → Type 0
PartSet [] old new = new ≡ old
PartSet (e ∷ es) old new = SameBut e.0 old new ⊎ PartSet es (option_map (with_file e.0 e.1) old) new
