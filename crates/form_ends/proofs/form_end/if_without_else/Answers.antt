use Rattle.calculus.specs.Meaning.{proc_written}
use Rattle.calculus.specs.declared.process.Proc.{Proc}
use Rattle.form_parts.specs.declared.part.Part.{Part}
use Rattle.form_steps.proofs.Handed.{as_fault, as_read, if_read, made_room}
use Rattle.form_steps.proofs.Turning.{built}
use Rattle.grammar.specs.Rules.{done}
use Rattle.grammar.specs.Values.{if_of, nil, opened}
use Rattle.std.proofs.Common.{arith, max, ◌+◌, ◌<◌, ◌^◌}
use Rattle.form_ends.proofs.form_end.if_without_else.Goals as goal

pub if_only-requires : goal.if_only-requires
if_only-requires c = let h = if_read (λ (a : Part Proc × Part Proc). (a.0.height + 1 < 2 ^ 32) × (a.1.height + 1 < 2 ^ 32)) _ c.in-Ok.is c.requires in record { condition = h.0; yes = h.1 }

pub returns-in-Ok-clause-reads : goal.returns-in-Ok-clause-reads
returns-in-Ok-clause-reads c = λ free r ts us t. as_read (λ (a : Part Proc × Part Proc). done (opened (if_of (proc_written a.0.value) (proc_written a.1.value) nil) (max a.0.height a.1.height))) _ c.in-Ok.is t _ (built proc_written _ _ c.if_only.ensures.tree c.if_only.ensures.height)

pub returns-in-Ok-clause-room : goal.returns-in-Ok-clause-room
returns-in-Ok-clause-room c = λ n h. let k = if_read (λ (a : Part Proc × Part Proc). (a.0.height < n) × (a.1.height < n)) _ c.in-Ok.is h in made_room _ c.if_only.ensures.height (omega (arith, k.0, k.1))

pub returns-in-Err-clause-reads : goal.returns-in-Err-clause-reads
returns-in-Err-clause-reads c = λ free r ts us t. as_fault (λ (a : Part Proc × Part Proc). done (opened (if_of (proc_written a.0.value) (proc_written a.1.value) nil) (max a.0.height a.1.height))) _ c.in-Err.is t
