use Rattle.std.proofs.Common.{◌≡◌, map}
use Rattle.code_order.specs.Made.{beside, keyed_by}
use Rattle.code_order.proofs.order.with_codes.Given as goal

abbrev pub invariant-loop-item : goal.invariant-loop-item
invariant-loop-item g l = map beside l.keyed.items ≡ keyed_by g.T.HasCode.bytes l.yielded
