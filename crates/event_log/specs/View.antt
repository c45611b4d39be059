-- What a log of the program stands for.
use Rattle.std.specs.Prelude.{ℕ, ◌≤◌, List, length, map, All}
use Rattle.calculus.specs.declared.ids.Digest.{Digest}
use Rattle.calculus.specs.Log.{Header, Step, log_text}
use Rattle.event_log.specs.declared.log.TheConstants.{MOST_STEPS, MOST_DATA}
use Rattle.event_log.specs.declared.log.Log.{Log}
use Rattle.event_log.specs.declared.log.LogHeader.{LogHeader}
use Rattle.event_log.specs.declared.log.LogStep.{LogStep}

-- what a header stands for
abbrev pub header_of : LogHeader → Header
header_of h = record { base = h.base.0; source = h.source.0; prices = h.prices.0; limit = h.limit }

-- what a step stands for
abbrev pub step_of : LogStep → Step
step_of s = record { receiver = s.cont.0; data_ids = map (λ (id : Digest). id.0) s.taken.items; repeat = s.repeat }

-- what steps stand for
abbrev pub steps_of : List LogStep → List Step
steps_of ss = map step_of ss

-- the text of a log, version 1
abbrev pub text_of : Log → List ℕ
text_of log = log_text (header_of log.header) (steps_of log.steps.items)

-- a step takes at least one datum, and no more than a receiver has binds
abbrev pub TakesInRange : LogStep → Type 0
TakesInRange s = (1 ≤ length s.taken.items) × (length s.taken.items ≤ MOST_DATA)

-- a log has no more steps than its text may have, and each takes as many data as a step may
pub record IsWritable (log : Log) : Type 0 where
  pub steps : length log.steps.items ≤ MOST_STEPS
  pub taken : All TakesInRange log.steps.items
