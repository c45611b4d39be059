use Rattle.std.proofs.Common.{◌∙◌}
use Rattle.code_order.proofs.Made.{process-made, sorted-ordered, members-ordered}
use Rattle.code_order.proofs.make.make_par.Goals as goal

pub sorted_parts-requires : goal.sorted_parts-requires
sorted_parts-requires c = members-ordered _ _ c.in_ok-parts.ensures

pub from_sorted-requires-clause-parts : goal.from_sorted-requires-clause-parts
from_sorted-requires-clause-parts c = sorted-ordered _ _ c.in_ok-parts-2.ensures.ascend

pub returns : goal.returns
returns c = c.from_sorted.ensures ∙ process-made _ _ _ c.in_ok-parts.ensures c.in_ok-parts-2.ensures.ascend
