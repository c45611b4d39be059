use Rattle.calculus.specs.Meaning.{pat_written}
use Rattle.grammar.specs.Rules.{done}
use Rattle.grammar.specs.Values.{bundle_of, opened, patterns}
use Rattle.form_steps.proofs.Handed.{if_read, made_room}
use Rattle.form_steps.proofs.Turning.{built}
use Rattle.token_cursor.specs.Reading.{of_pat}
use Rattle.std.proofs.Common.{arith, ◌+◌, ◌<◌, ◌^◌}
use Rattle.form_steps.proofs.plain.close_bundle_pattern.Goals as goal

pub bundle_pat-requires : goal.bundle_pat-requires
bundle_pat-requires c = record { body = if_read (λ p. p.height + 1 < 2 ^ 32) _ c.in-Ok.ensures.same c.requires }

pub returns-in-Ok-clause-reads : goal.returns-in-Ok-clause-reads
returns-in-Ok-clause-reads c = λ free r ts t. c.in-Ok.ensures.reads free r ts (λ p. done (opened (bundle_of patterns c.args.rights (of_pat p).tree) p.height)) t _ (built pat_written _ _ c.bundle_pat.ensures.tree c.bundle_pat.ensures.height)

pub returns-in-Ok-clause-room : goal.returns-in-Ok-clause-room
returns-in-Ok-clause-room c = λ n h. let k = if_read (λ p. p.height < n) _ c.in-Ok.ensures.same h in made_room _ c.bundle_pat.ensures.height (omega (arith, k))

pub returns-in-Err-clause-reads : goal.returns-in-Err-clause-reads
returns-in-Err-clause-reads c = λ free r ts t. c.in-Err.ensures.reads free r ts (λ p. done (opened (bundle_of patterns c.args.rights (of_pat p).tree) p.height)) t
