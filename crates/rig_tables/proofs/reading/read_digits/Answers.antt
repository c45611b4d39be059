use Rattle.std.proofs.lemmas.Result.{MatchResult-at_ok}
use Rattle.event_log.proofs.Ranges.{read_logs_are_writable}
use Rattle.rig_tables.proofs.reading.read_digits.Goals as goal

pub returns-in-Ok : goal.returns-in-Ok
returns-in-Ok c =
    read_logs_are_writable c.as_slice.result.now c.in-Ok.log (MatchResult-at_ok _ _ c.in-Ok.log c.in-Ok.is c.read_log.ensures.log)
