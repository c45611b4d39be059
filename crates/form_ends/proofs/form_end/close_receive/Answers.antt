use Rattle.calculus.specs.Meaning.{bind_written, proc_written}
use Rattle.grammar.specs.Rules.{done}
use Rattle.grammar.specs.Values.{opened, receive_of}
use Rattle.form_steps.proofs.Handed.{if_read, made_room}
use Rattle.form_steps.proofs.Turning.{built}
use Rattle.token_cursor.proofs.Steps.{gives_up}
use Rattle.token_cursor.specs.Reading.{of_proc}
use Rattle.std.proofs.Common.{arith, map, max, ◌+◌, ◌<◌, ◌^◌}
use Rattle.form_ends.proofs.form_end.close_receive.Goals as goal

pub receive-requires : goal.receive-requires
receive-requires c = record { binds = c.requires.binds; body = if_read (λ p. p.height + 1 < 2 ^ 32) _ c.in-Ok.ensures.same c.requires.body }

pub returns-in-Ok-clause-reads : goal.returns-in-Ok-clause-reads
returns-in-Ok-clause-reads c = λ free r ts t. c.in-Ok.ensures.reads free r ts (λ p. done (opened (receive_of c.args.kind (map bind_written c.args.binds.value.items) (of_proc p).tree) (max c.args.binds.height p.height))) t _ (built proc_written _ _ c.receive.ensures.tree c.receive.ensures.height)

pub returns-in-Ok-clause-room : goal.returns-in-Ok-clause-room
returns-in-Ok-clause-room c = λ n l h. let k = if_read (λ p. p.height < n) _ c.in-Ok.ensures.same h in made_room _ c.receive.ensures.height (omega (arith, k, l))

pub returns-in-Err-clause-reads : goal.returns-in-Err-clause-reads
returns-in-Err-clause-reads c = λ free r ts t. gives_up of_proc _ _ c.give_up.ensures (c.in-Err.ensures.reads free r ts (λ p. done (opened (receive_of c.args.kind (map bind_written c.args.binds.value.items) (of_proc p).tree) (max c.args.binds.height p.height))) t)
