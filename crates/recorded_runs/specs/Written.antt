-- What the writing of a plan comes to.
use Rattle.std.specs.Prelude.{Result, Ok, Err}
use Rattle.run_status.specs.Endings.{status_of}
use Rattle.run_status.specs.Statuses.{status_of_halt}
use Rattle.run_reports.specs.declared.finish.Halt.{Halt}
use Rattle.run_status.specs.declared.status.Status.{Status}
use Rattle.replays.specs.declared.verdict.Verdict.{Verdict}

-- the status of a run with this verdict: all of it was written, or the writing stopped for this
abbrev pub status_after : Verdict → Result (Unit {0}) Halt → Status
status_after verdict (Ok done) = status_of verdict
status_after verdict (Err halt) = status_of_halt halt
