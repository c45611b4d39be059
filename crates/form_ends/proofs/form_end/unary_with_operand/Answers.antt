use Rattle.calculus.specs.Meaning.{proc_written}
use Rattle.form_steps.proofs.Handed.{as_fault, as_read, if_read, made_room}
use Rattle.form_steps.proofs.Turning.{built}
use Rattle.grammar.specs.Rules.{done}
use Rattle.grammar.specs.Values.{opened, unary_of}
use Rattle.token_cursor.specs.Reading.{of_proc}
use Rattle.std.proofs.Common.{arith, ◌+◌, ◌<◌, ◌^◌}
use Rattle.form_ends.proofs.form_end.unary_with_operand.Goals as goal

pub unary-requires : goal.unary-requires
unary-requires c = record { arg = if_read (λ p. p.height + 1 < 2 ^ 32) _ c.in-Ok.is c.requires }

pub returns-in-Ok-clause-reads : goal.returns-in-Ok-clause-reads
returns-in-Ok-clause-reads c = λ free r ts us t. as_read (λ p. done (opened (unary_of c.args.op (of_proc p).tree) p.height)) _ c.in-Ok.is t _ (built proc_written _ _ c.unary.ensures.tree c.unary.ensures.height)

pub returns-in-Ok-clause-room : goal.returns-in-Ok-clause-room
returns-in-Ok-clause-room c = λ n h. let k = if_read (λ p. p.height < n) _ c.in-Ok.is h in made_room _ c.unary.ensures.height (omega (arith, k))

pub returns-in-Err-clause-reads : goal.returns-in-Err-clause-reads
returns-in-Err-clause-reads c = λ free r ts us t. as_fault (λ p. done (opened (unary_of c.args.op (of_proc p).tree) p.height)) _ c.in-Err.is t
