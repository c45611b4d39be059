-- The rows that a play begins with.
use Rattle.std.specs.Prelude.{◌≡◌, ℕ, true, List, All, map as each}
use Rattle.calculus.specs.Form.{IsDigest}
use Rattle.calculus.specs.Root.{root}
use Rattle.calculus.specs.Rows.{Row}
use Rattle.calculus.specs.Steps.{differ}
use Rattle.events.specs.Quiet.{AreQuiet}

-- rows with this root that a deploy may begin with: their ids are digests that differ, and no step is allowed among them, if their ids and those of the built-in receivers differ
pub record IsQuietBase (rows : List Row) (digest : List ℕ) : Type 0 where
  pub root_is : digest ≡ root rows
  pub digests : All (λ r. IsDigest r.id) rows
  pub ids : differ (each (λ r. r.id) rows) ≡ true
  pub quiet : AreQuiet rows
