use Rattle.grammar.specs.Rules.{sign}
use Rattle.std.proofs.Common.{Ok, arith, ◌≡◌}
use Rattle.form_ends.proofs.Kept.{kept}
use Rattle.form_ends.proofs.Lengths.{no_longer}
use Rattle.form_ends.proofs.next_marks.then_marks.Goals as goal

pub returns-clause-reads : goal.returns-clause-reads
returns-clause-reads g c = λ free r ts after t. c.then_mark.ensures.reads free r ts after (c.then_mark-taken.ensures.reads free r ts (λ x. sign c.args.second (after x)) t)

pub returns-clause-same : goal.returns-clause-same
returns-clause-same g c = kept (λ x. c.args.read ≡ Ok x) _ _ c.then_mark.ensures.same c.then_mark-taken.ensures.same

pub returns-clause-shorter : goal.returns-clause-shorter
returns-clause-shorter g c = omega (arith, no_longer _ c.then_mark-taken.ensures.shorter, no_longer _ c.then_mark.ensures.shorter)
