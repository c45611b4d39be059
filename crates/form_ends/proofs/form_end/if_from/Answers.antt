use Rattle.calculus.specs.Meaning.{proc_written}
use Rattle.grammar.specs.Rules.{done}
use Rattle.grammar.specs.Values.{if_of, opened}
use Rattle.form_steps.proofs.Handed.{as_fault, as_read, if_read, made_room}
use Rattle.form_steps.proofs.Turning.{built}
use Rattle.token_cursor.proofs.Steps.{gives_up}
use Rattle.token_cursor.specs.Reading.{of_proc}
use Rattle.std.proofs.Common.{arith, max, ◌+◌, ◌<◌, ◌^◌}
use Rattle.form_ends.proofs.form_end.if_from.Goals as goal

pub choice-requires : goal.choice-requires
choice-requires c = record { condition = c.requires.condition; yes = c.requires.yes; no = if_read (λ p. p.height + 1 < 2 ^ 32) _ c.in-Ok.is c.requires.no }

pub returns-in-Ok-clause-reads : goal.returns-in-Ok-clause-reads
returns-in-Ok-clause-reads c = λ free r ts us t. as_read (λ p. done (opened (if_of (proc_written c.args.arms.0.value) (proc_written c.args.arms.1.value) (of_proc p).tree) (max (max c.args.arms.0.height c.args.arms.1.height) p.height))) _ c.in-Ok.is t _ (built proc_written _ _ c.choice.ensures.tree c.choice.ensures.height)

pub returns-in-Ok-clause-room : goal.returns-in-Ok-clause-room
returns-in-Ok-clause-room c = λ n a b h. let k = if_read (λ p. p.height < n) _ c.in-Ok.is h in made_room _ c.choice.ensures.height (omega (arith, k, a, b))

pub returns-in-Err-clause-reads : goal.returns-in-Err-clause-reads
returns-in-Err-clause-reads c = λ free r ts us t. gives_up of_proc _ _ c.give_up.ensures (as_fault (λ p. done (opened (if_of (proc_written c.args.arms.0.value) (proc_written c.args.arms.1.value) (of_proc p).tree) (max (max c.args.arms.0.height c.args.arms.1.height) p.height))) _ c.in-Err.is t)
