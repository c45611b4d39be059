use Rattle.std.proofs.Common.{take, All}
use Rattle.code_order.proofs.compared.all_suit.Given as goal

abbrev pub invariant-loop-item : goal.invariant-loop-item
invariant-loop-item g l = All g.T.HasCode.is_suited (take l.item-index l.items)
