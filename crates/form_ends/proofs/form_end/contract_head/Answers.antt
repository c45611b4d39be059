use Rattle.calculus.specs.declared.process.Name.{Name}
use Rattle.grammar.specs.Rules.{sign}
use Rattle.grammar.specs.declared.mark.Mark.TheVariants.{Assign, Close}
use Rattle.form_parts.specs.declared.part.Left.{Left}
use Rattle.form_parts.specs.declared.part.Part.{Part}
use Rattle.token_cursor.specs.Reading.{of_left, of_name}
use Rattle.std.proofs.Common.{arith, ◌<◌}
use Rattle.form_ends.proofs.Kept.{both_room, both_turns, kept}
use Rattle.form_ends.proofs.Lengths.{no_longer}
use Rattle.form_ends.proofs.form_end.contract_head.Goals as goal

pub returns-clause-reads : goal.returns-clause-reads
returns-clause-reads c = λ after free r ts t. c.then_mark.ensures.reads free r ts (λ h. after (of_name h.0) (of_left h.1)) (c.then_mark-closed.ensures.reads free r ts (λ h. sign Assign (after (of_name h.0) (of_left h.1))) (both_turns free r ts _ (λ (n : Part Name) (l : Part Left). sign Close (sign Assign (after (of_name n) (of_left l)))) c.args.name c.args.left _ c.both.ensures t))

pub returns-clause-room : goal.returns-clause-room
returns-clause-room c = λ n l h. kept (λ (q : Part Name × Part Left). (q.0.height < n) × (q.1.height < n)) _ _ c.then_mark.ensures.same (kept (λ (q : Part Name × Part Left). (q.0.height < n) × (q.1.height < n)) _ _ c.then_mark-closed.ensures.same (both_room n c.args.name c.args.left _ c.both.ensures l h))

pub returns-clause-shorter : goal.returns-clause-shorter
returns-clause-shorter c = omega (arith, no_longer _ c.then_mark-closed.ensures.shorter, no_longer _ c.then_mark.ensures.shorter)
