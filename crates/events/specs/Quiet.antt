-- Rows from which no step is allowed.
use Rattle.std.specs.Prelude.{◌≡◌, true, List, [], None}
use Rattle.calculus.specs.Log.{Step}
use Rattle.calculus.specs.Rows.{Row}
use Rattle.calculus.specs.Steps.{differ, meeting}
use Rattle.events.specs.Events.{stored, first_ids}

-- no step is allowed among these rows and the built-in receivers
abbrev pub AllowNoStep : List Row → Type 0
AllowNoStep rows = (s : Step) → meeting (stored rows) [] s ≡ None

-- the same, where no two of the ids of these rows and of the built-in receivers are equal
abbrev pub AreQuiet : List Row → Type 0
AreQuiet rows = differ (first_ids rows) ≡ true → AllowNoStep rows
