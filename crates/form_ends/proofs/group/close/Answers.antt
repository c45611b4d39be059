use Rattle.form_steps.proofs.Handed.{if_read}
use Rattle.grammar.specs.Descent.{runs_done}
use Rattle.grammar.specs.Rules.{done}
use Rattle.grammar.specs.Values.{opened}
use Rattle.std.proofs.Common.{arith, ◌+◌, ◌<◌, ◌^◌}
use Rattle.form_ends.proofs.group.close.Goals as goal

pub overflow_add-height : goal.overflow_add-height
overflow_add-height g c = let k = if_read (λ p. p.height + 1 < 2 ^ 32) _ c.in-Ok.ensures.same c.requires in omega (arith, k)

pub returns-in-Ok-clause-reads : goal.returns-in-Ok-clause-reads
returns-in-Ok-clause-reads g c = λ written free r ts t. c.in-Ok.ensures.reads free r ts (λ p. done (opened (written p.value) p.height)) t _ runs_done

pub returns-in-Ok-clause-room : goal.returns-in-Ok-clause-room
returns-in-Ok-clause-room g c = λ n h. let k = if_read (λ p. p.height < n) _ c.in-Ok.ensures.same h in omega (arith, k)

pub returns-in-Err-clause-reads : goal.returns-in-Err-clause-reads
returns-in-Err-clause-reads g c = λ written free r ts t. c.in-Err.ensures.reads free r ts (λ p. done (opened (written p.value) p.height)) t
