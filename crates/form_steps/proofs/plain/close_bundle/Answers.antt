use Rattle.calculus.specs.Meaning.{proc_written}
use Rattle.grammar.specs.Rules.{done}
use Rattle.grammar.specs.Values.{bundle_of, opened, processes}
use Rattle.form_steps.proofs.Handed.{if_read, made_room}
use Rattle.form_steps.proofs.Turning.{built}
use Rattle.token_cursor.specs.Reading.{of_proc}
use Rattle.std.proofs.Common.{arith, ◌+◌, ◌<◌, ◌^◌}
use Rattle.form_steps.proofs.plain.close_bundle.Goals as goal

pub bundle-requires : goal.bundle-requires
bundle-requires c = record { body = if_read (λ p. p.height + 1 < 2 ^ 32) _ c.in-Ok.ensures.same c.requires }

pub returns-in-Ok-clause-reads : goal.returns-in-Ok-clause-reads
returns-in-Ok-clause-reads c = λ free r ts t. c.in-Ok.ensures.reads free r ts (λ p. done (opened (bundle_of processes c.args.rights (of_proc p).tree) p.height)) t _ (built proc_written _ _ c.bundle.ensures.tree c.bundle.ensures.height)

pub returns-in-Ok-clause-room : goal.returns-in-Ok-clause-room
returns-in-Ok-clause-room c = λ n h. let k = if_read (λ p. p.height < n) _ c.in-Ok.ensures.same h in made_room _ c.bundle.ensures.height (omega (arith, k))

pub returns-in-Err-clause-reads : goal.returns-in-Err-clause-reads
returns-in-Err-clause-reads c = λ free r ts t. c.in-Err.ensures.reads free r ts (λ p. done (opened (bundle_of processes c.args.rights (of_proc p).tree) p.height)) t
