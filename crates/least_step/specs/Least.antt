-- The least step that rows allow.
use Rattle.std.specs.Prelude.{◌≡◌, false, List, ◌∷◌, map as each, Some, None, IsPermutation}
use Rattle.calculus.specs.Candidates.{next_step, IsLeastAllowed}
use Rattle.calculus.specs.Log.{Step}
use Rattle.calculus.specs.Rows.{Row}
use Rattle.calculus.specs.Steps.{Bag, Meeting, standing, stored_rows, meeting}
use Rattle.events.specs.Found.{met, is_lasting, step_of}
use Rattle.row_search.specs.Meetings.{AllAmong}
use Rattle.least_step.specs.declared.least.LeastStep.{LeastStep}

-- a bag has these rows beside the built-in receivers, in any order
abbrev pub HasRows : Bag → List Row → Type 0
HasRows b rows = IsPermutation (stored_rows b) rows

-- these steps used up no rows of a bag: rows of it that meet, of which one leaves, have not met in these steps
abbrev pub NothingIsUsedUp : Bag → List Step → Type 0
NothingIsUsedUp b made = (r : Row) (ds : List Row) → AllAmong (r ∷ ds) (standing b) → (m : Meeting) → met (r ∷ ds) ≡ Some m → is_lasting m ≡ false → (step_of made r ds).repeat ≡ 0

-- no step is allowed in a bag after these steps
abbrev pub AllowsNone : Bag → List Step → Type 0
AllowsNone b made = (s : Step) → meeting b made s ≡ None

-- the next step of this receiver with these data is the least that is allowed in a bag after these steps
abbrev pub IsLeast : Bag → List Step → LeastStep → Type 0
IsLeast b made f = IsLeastAllowed b made (next_step made f.cont.0 (each (λ d. d.0) f.taken.items))
