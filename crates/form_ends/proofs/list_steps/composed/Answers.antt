use Rattle.calculus.specs.Meaning.{proc_written}
use Rattle.form_steps.proofs.Handed.{as_fault, as_read, if_read}
use Rattle.grammar.specs.Rules.{done}
use Rattle.grammar.specs.Values.{par_of, processes, spelt}
use Rattle.token_cursor.proofs.Steps.{ends}
use Rattle.std.proofs.Common.{arith, map, ◌≤◌}
use Rattle.form_ends.proofs.list_steps.composed.Goals as goal

pub returns-in-Ok-clause-reads : goal.returns-in-Ok-clause-reads
returns-in-Ok-clause-reads c = λ free r ts us t. as_read (λ ps. done (spelt (par_of processes (map proc_written ps.value.items)) ps.height)) _ c.in-Ok.is t _ (ends _ _ c.composed.ensures.tree c.composed.ensures.height)

pub returns-in-Ok-clause-room : goal.returns-in-Ok-clause-room
returns-in-Ok-clause-room c = λ n h. let k = if_read (λ ps. ps.height ≤ n) _ c.in-Ok.is h in omega (arith, k, c.composed.ensures.height)

pub returns-in-Err-clause-reads : goal.returns-in-Err-clause-reads
returns-in-Err-clause-reads c = λ free r ts us t. as_fault (λ ps. done (spelt (par_of processes (map proc_written ps.value.items)) ps.height)) _ c.in-Err.is t
