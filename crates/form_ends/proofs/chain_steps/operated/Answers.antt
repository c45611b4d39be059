use Rattle.calculus.specs.Meaning.{proc_written}
use Rattle.form_ends.proofs.Chains.{made_on}
use Rattle.form_steps.proofs.Handed.{as_fault, as_read, if_read, made_room}
use Rattle.grammar.specs.Values.{operation}
use Rattle.token_cursor.proofs.Steps.{turns_back}
use Rattle.token_cursor.specs.Reading.{of_proc}
use Rattle.std.proofs.Common.{arith, ◌+◌, ◌<◌, ◌^◌}
use Rattle.form_ends.proofs.chain_steps.operated.Goals as goal

pub operation-requires : goal.operation-requires
operation-requires c = record { left = c.requires.left; right = if_read (λ p. p.height + 1 < 2 ^ 32) _ c.in-Ok.is c.requires.right }

pub returns-in-Ok-clause-reads : goal.returns-in-Ok-clause-reads
returns-in-Ok-clause-reads c = λ free r ts us after t. made_on proc_written after (operation c.args.op (of_proc c.args.left) (of_proc c.in-Ok.right)) _ c.operation.ensures.tree c.operation.ensures.height (as_read (λ p. after (operation c.args.op (of_proc c.args.left) (of_proc p))) _ c.in-Ok.is t)

pub returns-in-Ok-clause-room : goal.returns-in-Ok-clause-room
returns-in-Ok-clause-room c = λ n l h. let k = if_read (λ p. p.height < n) _ c.in-Ok.is h in made_room _ c.operation.ensures.height (omega (arith, k, l))

pub returns-in-Err-clause-reads : goal.returns-in-Err-clause-reads
returns-in-Err-clause-reads c = λ free r ts us after t. turns_back (λ p. after (of_proc p)) _ _ c.give_up.ensures (as_fault (λ p. after (operation c.args.op (of_proc c.args.left) (of_proc p))) _ c.in-Err.is t)
