use Rattle.std.proofs.Common.{sym}
use Rattle.recorded_runs.proofs.plans.made_replay.Goals as goal

pub returns : goal.returns
returns c =
    let i = c.in_ok-inputs.ensures in
    record {
      given = record { task = sym i.task; log = c.in_ok-log.ensures.read };
      rows = i.rows;
      base = i.base;
      term = i.term;
      closed = i.closed;
      short = i.short;
      writable = c.in_ok-log.ensures.writable;
    }
