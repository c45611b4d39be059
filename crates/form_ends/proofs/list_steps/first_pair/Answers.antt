use Rattle.form_ends.proofs.Carried.{never, same_value}
use Rattle.form_ends.proofs.Pairs.{paired_first}
use Rattle.form_steps.proofs.Handed.{if_read}
use Rattle.std.proofs.Common.{◌≤◌}
use Rattle.form_ends.proofs.list_steps.first_pair.Goals as goal

pub returns-in-Ok-clause-reads : goal.returns-in-Ok-clause-reads
returns-in-Ok-clause-reads g c = λ k e. paired_first _ _ _ _ k (same_value _ k c.in-Ok.is e) c.paired.ensures.reads c.first_of.ensures.reads

pub returns-in-Ok-clause-room : goal.returns-in-Ok-clause-room
returns-in-Ok-clause-room g c = λ n h k. c.first_of.ensures.room n (c.paired.ensures.room n (if_read (λ x. x.height ≤ n) _ c.in-Ok.is h) k)

pub returns-in-Err-clause-reads : goal.returns-in-Err-clause-reads
returns-in-Err-clause-reads g c = λ k e. never _ c.in-Err.is e
