use Rattle.code_order.proofs.Made.{sorted-ordered}
use Rattle.substitution.proofs.maker.Maker.process.Goals as goal

pub from_sorted-requires-clause-parts : goal.from_sorted-requires-clause-parts
from_sorted-requires-clause-parts c = sorted-ordered _ _ c.in-Ok.ensures.ascend
