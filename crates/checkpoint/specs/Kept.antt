-- Rows that a state may keep.
use Rattle.std.specs.Prelude.{◌≡◌, true, All, List, map as each}
use Rattle.calculus.specs.Order.{IsAscending}
use Rattle.calculus.specs.Rows.{Row, row_code}
use Rattle.calculus.specs.Steps.{differ}
use Rattle.calculus.specs.Storing.{IsStorable}
use Rattle.events.specs.Quiet.{AreQuiet}

-- rows that stand in the order of a state: each may be stored, their codes ascend, and no two have one id
pub record AreInOrder (rows : List Row) : Type 0 where
  pub storable : All IsStorable rows
  pub ascending : IsAscending (each row_code rows)
  pub ids : differ (each (λ r. r.id) rows) ≡ true

-- rows that a state may keep: they stand in its order and allow no step
pub record AreKept (rows : List Row) : Type 0 where
  pub order : AreInOrder rows
  pub quiet : AreQuiet rows
