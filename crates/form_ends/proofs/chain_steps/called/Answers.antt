use Rattle.calculus.specs.Meaning.{proc_written}
use Rattle.form_ends.proofs.Chains.{made_on}
use Rattle.form_steps.proofs.Handed.{as_fault, as_read, if_read, made_room}
use Rattle.grammar.specs.Values.{method_of, opened}
use Rattle.token_cursor.proofs.Steps.{turns_back}
use Rattle.token_cursor.specs.Reading.{of_proc, of_row}
use Rattle.std.proofs.Common.{arith, max, string_bytes, ◌+◌, ◌<◌, ◌^◌}
use Rattle.form_ends.proofs.chain_steps.called.Goals as goal

pub method-requires : goal.method-requires
method-requires c = record { target = c.requires.target; args = if_read (λ p. p.height + 1 < 2 ^ 32) _ c.in-Ok.is c.requires.args }

pub returns-in-Ok-clause-reads : goal.returns-in-Ok-clause-reads
returns-in-Ok-clause-reads c = λ free r ts us after t. made_on proc_written after (opened (method_of (string_bytes c.args.name) (of_proc c.args.target).tree (of_row c.in-Ok.args).tree) (max c.args.target.height c.in-Ok.args.height)) _ c.method.ensures.tree c.method.ensures.height (as_read (λ a. after (opened (method_of (string_bytes c.args.name) (of_proc c.args.target).tree (of_row a).tree) (max c.args.target.height a.height))) _ c.in-Ok.is t)

pub returns-in-Ok-clause-room : goal.returns-in-Ok-clause-room
returns-in-Ok-clause-room c = λ n l h. let k = if_read (λ p. p.height < n) _ c.in-Ok.is h in made_room _ c.method.ensures.height (omega (arith, k, l))

pub returns-in-Err-clause-reads : goal.returns-in-Err-clause-reads
returns-in-Err-clause-reads c = λ free r ts us after t. turns_back (λ p. after (of_proc p)) _ _ c.give_up.ensures (as_fault (λ a. after (opened (method_of (string_bytes c.args.name) (of_proc c.args.target).tree (of_row a).tree) (max c.args.target.height a.height))) _ c.in-Err.is t)
