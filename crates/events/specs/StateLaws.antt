-- The order of rows plays no part in a state.
use Rattle.std.specs.Prelude.{◌≡◌, List, IsPermutation}
use Rattle.calculus.specs.Rows.{Row}
use Rattle.calculus.specs.Root.{root}
use Rattle.events.specs.States.{state_text}

-- rows in another order have the same root
abbrev pub RootIgnoresOrder : Type 0
RootIgnoresOrder = (rows others : List Row) → IsPermutation rows others → root rows ≡ root others

-- and the same text
abbrev pub TextIgnoresOrder : Type 0
TextIgnoresOrder = (rows others : List Row) → IsPermutation rows others → state_text rows ≡ state_text others
