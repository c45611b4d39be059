use Rattle.code_order.proofs.Made.{pairs-sorted}
use Rattle.code_order.proofs.order.sorted_pairs.Goals as goal

pub sorted-requires : goal.sorted-requires
sorted-requires c = λ k d h. tt

pub returns : goal.returns
returns c = pairs-sorted c.args.pairs.items c.sorted.result c.sorted.ensures
