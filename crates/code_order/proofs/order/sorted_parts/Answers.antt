use Rattle.code_order.proofs.Made.{parts-sorted, parts-kept}
use Rattle.code_order.proofs.order.sorted_parts.Goals as goal

pub sorted-requires : goal.sorted-requires
sorted-requires c = c.requires

pub returns-clause-ascend : goal.returns-clause-ascend
returns-clause-ascend c = parts-sorted c.args.parts.items c.sorted.result c.sorted.ensures

pub returns-clause-members : goal.returns-clause-members
returns-clause-members c = parts-kept c.args.parts.items c.sorted.result c.requires c.sorted.ensures
