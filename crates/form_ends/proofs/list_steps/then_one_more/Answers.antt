use Rattle.form_ends.proofs.Carried.{appends, appends_none}
use Rattle.form_steps.proofs.Handed.{if_read}
use Rattle.std.proofs.Common.{Err, ◌≤◌}
use Rattle.form_ends.proofs.list_steps.then_one_more.Goals as goal

pub returns-in-Ok-clause-reads : goal.returns-in-Ok-clause-reads
returns-in-Ok-clause-reads g c = appends _ _ _ _ c.in-Ok.is c.one_more.ensures.reads

pub returns-in-Ok-clause-room : goal.returns-in-Ok-clause-room
returns-in-Ok-clause-room g c = λ n a b. c.one_more.ensures.room n (if_read (λ ps. ps.height ≤ n) _ c.in-Ok.is a) b

pub returns-in-Err-clause-reads : goal.returns-in-Err-clause-reads
returns-in-Err-clause-reads g c = appends_none c.args.before c.args.next (Err c.in-Err.fault) c.in-Err.fault c.in-Err.is
