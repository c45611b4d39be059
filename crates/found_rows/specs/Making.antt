-- The step that is made with rows that were found.
use Rattle.std.specs.Prelude.{ℕ, ◌||◌, cond, List, [], map as each, count_by}
use Rattle.std.specs.Str.{bytes_eq}
use Rattle.calculus.specs.Shape.{at}
use Rattle.calculus.specs.Log.{Step}
use Rattle.calculus.specs.Rows.{stdout, stdout_ack}
use Rattle.calculus.specs.Steps.{same_meeting, line}
use Rattle.found_rows.specs.declared.found.Found.{Found}

-- the step of what was found, with this repeat number
abbrev pub step_with : Found → ℕ → Step
step_with f n = record { receiver = f.cont.0; data_ids = each (λ d. d.0) f.taken.items; repeat = n }

-- how often a step like that of what was found was made
abbrev pub times_made : Found → List Step → ℕ
times_made f made = count_by (same_meeting (step_with f 0)) made

-- the line that the step prints: that of the first value that is bound, where the receiver has a built-in one's id
abbrev pub printed_line : Found → List ℕ
printed_line f = cond (bytes_eq f.cont.0 stdout.id || bytes_eq f.cont.0 stdout_ack.id) (line (at 0 f.bound.items)) []
