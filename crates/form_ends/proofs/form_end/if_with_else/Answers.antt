use Rattle.calculus.specs.Meaning.{proc_written}
use Rattle.calculus.specs.declared.process.Proc.{Proc}
use Rattle.form_ends.proofs.Carried.{never, same_value}
use Rattle.form_parts.specs.declared.part.Part.{Part}
use Rattle.form_steps.proofs.Handed.{if_read}
use Rattle.form_steps.specs.Handing.{Completes}
use Rattle.grammar.specs.Rules.{done}
use Rattle.grammar.specs.Values.{if_of, opened}
use Rattle.token_cursor.specs.Reading.{of_proc}
use Rattle.std.proofs.Common.{max, subst, ◌+◌, ◌<◌, ◌^◌}
use Rattle.form_ends.proofs.form_end.if_with_else.Goals as goal

pub if_from-requires : goal.if_from-requires
if_from-requires c = let h = if_read (λ (a : Part Proc × Part Proc). (a.0.height + 1 < 2 ^ 32) × (a.1.height + 1 < 2 ^ 32)) _ c.in-Ok.is c.requires.arms in record { condition = h.0; yes = h.1; no = c.requires.no }

pub returns-in-Ok-clause-reads : goal.returns-in-Ok-clause-reads
returns-in-Ok-clause-reads c = λ a e. subst (λ (q : Part Proc × Part Proc). Completes c.args.other (λ p. done (opened (if_of (proc_written q.0.value) (proc_written q.1.value) (of_proc p).tree) (max (max q.0.height q.1.height) p.height))) of_proc c.if_from.result) (same_value _ a c.in-Ok.is e) c.if_from.ensures.reads

pub returns-in-Ok-clause-room : goal.returns-in-Ok-clause-room
returns-in-Ok-clause-room c = λ n h k. let l = if_read (λ (a : Part Proc × Part Proc). (a.0.height < n) × (a.1.height < n)) _ c.in-Ok.is h in c.if_from.ensures.room n l.0 l.1 k

pub returns-in-Err-clause-reads : goal.returns-in-Err-clause-reads
returns-in-Err-clause-reads c = λ a e. never _ c.in-Err.is e
