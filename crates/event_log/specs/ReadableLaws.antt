-- What is known of a log that was read. The law stands in the contract of a public function that does nothing.
use Rattle.std.specs.Prelude.{◌≡◌, ℕ, List, Ok}
use Rattle.event_log.specs.Reading.{log_of}
use Rattle.event_log.specs.View.{header_of, steps_of, IsWritable}
use Rattle.event_log.specs.declared.log.Log.{Log}

-- a log that was read may be written: it has no more steps than a text may have, and each takes as many data as a step may
abbrev pub ReadLogsAreWritable : Type 0
ReadLogsAreWritable = (bytes : List ℕ) (log : Log) → log_of bytes ≡ Ok (header_of log.header, steps_of log.steps.items) → IsWritable log
