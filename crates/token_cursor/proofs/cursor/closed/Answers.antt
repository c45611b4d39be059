use Rattle.std.proofs.Common.{refl}
use Rattle.token_cursor.proofs.cursor.closed.Goals as goal

pub returns-in-Ok-clause-reads : goal.returns-in-Ok-clause-reads
returns-in-Ok-clause-reads g c = (refl, c.in-Ok.ensures.reads)

pub returns-in-Err-clause-reads : goal.returns-in-Err-clause-reads
returns-in-Err-clause-reads g c = rw c.give_up.ensures c.in-Err.ensures.reads
