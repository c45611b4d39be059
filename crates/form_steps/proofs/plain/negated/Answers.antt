use Rattle.calculus.specs.Meaning.{pat_written}
use Rattle.grammar.specs.Rules.{done}
use Rattle.grammar.specs.Values.{not_of, opened}
use Rattle.form_steps.proofs.Handed.{as_fault, as_read, if_read, made_room}
use Rattle.form_steps.proofs.Turning.{built}
use Rattle.token_cursor.specs.Reading.{of_pat}
use Rattle.std.proofs.Common.{arith, ◌+◌, ◌<◌, ◌^◌}
use Rattle.form_steps.proofs.plain.negated.Goals as goal

pub not_pat-requires : goal.not_pat-requires
not_pat-requires c = record { arg = if_read (λ p. p.height + 1 < 2 ^ 32) _ c.in-Ok.is c.requires }

pub returns-in-Ok-clause-reads : goal.returns-in-Ok-clause-reads
returns-in-Ok-clause-reads c = λ free r ts us t. as_read (λ p. done (opened (not_of (of_pat p).tree) p.height)) _ c.in-Ok.is t _ (built pat_written _ _ c.not_pat.ensures.tree c.not_pat.ensures.height)

pub returns-in-Ok-clause-room : goal.returns-in-Ok-clause-room
returns-in-Ok-clause-room c = λ n h. let k = if_read (λ p. p.height < n) _ c.in-Ok.is h in made_room _ c.not_pat.ensures.height (omega (arith, k))

pub returns-in-Err-clause-reads : goal.returns-in-Err-clause-reads
returns-in-Err-clause-reads c = λ free r ts us t. as_fault (λ p. done (opened (not_of (of_pat p).tree) p.height)) _ c.in-Err.is t
