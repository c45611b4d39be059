-- What a shelf and an output tell, and what of it a call leaves.
use Rattle.std.specs.Prelude.{ℕ, List, Option}
use Rattle.rho_outside.specs.FileMap.{FileMap}

-- what is told: the files, the counts of failed fetches and of failed keeps, the bytes that were put, and the count of failed puts
pub record World : Type 0 where
  pub files : Option FileMap
  pub fetches : ℕ
  pub keeps : ℕ
  pub bytes : Option (List ℕ)
  pub puts : ℕ

-- what is told by these
abbrev pub world : Option FileMap → ℕ → ℕ → Option (List ℕ) → ℕ → World
world files fetches keeps bytes puts = record { files = files; fetches = fetches; keeps = keeps; bytes = bytes; puts = puts }
