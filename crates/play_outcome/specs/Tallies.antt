-- What the entries of a play tell, added up in their order.
use Rattle.std.specs.Prelude.{◌≡◌, [], ◌∷◌, ◌++◌, List, map as each, Option, All, IfOk, Result}
use Rattle.calculus.specs.declared.fault.FaultKind.{FaultKind}
use Rattle.event_log.specs.View.{step_of, TakesInRange}
use Rattle.events.specs.Entries.{steps_of, faults_of, lines_of, first_fault}
use Rattle.replays.specs.View.{verdict_of}
use Rattle.hub_scenes.specs.Plays.{entries_of}
use Rattle.play_hub.specs.declared.entry.PlayEntry.{PlayEntry}
use Rattle.play_hub.specs.Endings.{play_of}
use Rattle.play_outcome.specs.declared.tally.Tally.{Tally}

-- these are the steps of the entries, with the verdict of the first fault after the source's, and the lines that they print
pub record IsTally (fault : Option FaultKind) (es : List PlayEntry) (t : Tally) : Type 0 where
  pub steps : each step_of t.steps.items ≡ steps_of (entries_of (play_of es))
  pub taken : All TakesInRange t.steps.items
  pub verdict : verdict_of t.verdict ≡ first_fault 0 (fault ∷ faults_of (entries_of (play_of es)))
  pub output : t.output.items ≡ lines_of (entries_of (play_of es))

-- with this entry behind those of the tally before, the tally after is theirs
abbrev pub Tallies : {T E : Type 0} → Result T E → PlayEntry → Tally → Tally → Type 0
Tallies result e before after = (fault : Option FaultKind) (es : List PlayEntry) → IsTally fault es before → IfOk result (λ _. IsTally fault (es ++ e ∷ []) after)
