use Rattle.calculus.specs.declared.process.Pat.{Pat}
use Rattle.form_ends.proofs.Carried.{never, same_value}
use Rattle.form_ends.specs.Reading.{after_first}
use Rattle.form_parts.specs.declared.part.Part.{Part}
use Rattle.form_steps.proofs.Handed.{if_read}
use Rattle.grammar.specs.Values.{patterns}
use Rattle.token_cursor.specs.Reading.{Makes, of_pat}
use Rattle.std.proofs.Common.{subst, ◌+◌, ◌<◌, ◌^◌}
use Rattle.form_ends.proofs.group.tuple_pattern.Goals as goal

pub tuple_pattern_from-requires : goal.tuple_pattern_from-requires
tuple_pattern_from-requires c = record { first = if_read (λ p. p.height + 1 < 2 ^ 32) _ c.in-Ok.is c.requires.first; row = c.requires.row }

pub returns-in-Ok-clause-reads : goal.returns-in-Ok-clause-reads
returns-in-Ok-clause-reads c = λ a e free ts us g. subst (λ (q : Part Pat). Makes free (after_first patterns (of_pat q)) of_pat ts c.tuple_pattern_from.result us) (same_value _ a c.in-Ok.is e) (c.tuple_pattern_from.ensures.reads free ts us g)

pub returns-in-Ok-clause-room : goal.returns-in-Ok-clause-room
returns-in-Ok-clause-room c = λ n h k. c.tuple_pattern_from.ensures.room n (if_read (λ p. p.height < n) _ c.in-Ok.is h) k

pub returns-in-Err-clause-reads : goal.returns-in-Err-clause-reads
returns-in-Err-clause-reads c = λ a e free ts us g. never _ c.in-Err.is e
