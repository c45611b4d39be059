use Rattle.std.proofs.Common.{ap, ◌∙◌}
use Rattle.calculus.specs.Operators.{seen}
use Rattle.coll_ops.proofs.Viewing.{seen_other}
use Rattle.coll_ops.proofs.views.only_part.Goals as goal

pub returns-else-parts-eq1-clause-part : goal.returns-else-parts-eq1-clause-part
returns-else-parts-eq1-clause-part c = ap seen c.parts-parts.ensures.parts ∙ seen_other c.parts-parts.result.now c.if-parts-eq1.false
