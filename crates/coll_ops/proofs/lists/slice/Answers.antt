use Rattle.std.proofs.Common.{sym}
use Rattle.calculus.specs.Operators.{of_list, seen}
use Rattle.value_ops.proofs.Arguments.{ranged, not_ranged}
use Rattle.coll_ops.proofs.Arguments.{at-range}
use Rattle.coll_ops.proofs.lists.slice.Goals as goal

pub slice_between-requires : goal.slice_between-requires
slice_between-requires c = (ranged (seen c.args.from.now) (seen c.args.to.now) c.in-Ok.low c.in-Ok.high (sym c.in-Ok.ensures)).rises

pub returns-in-Ok : goal.returns-in-Ok
returns-in-Ok c =
    at-range _ c.args.members.now (seen c.args.from.now) (seen c.args.to.now) c.in-Ok.low c.in-Ok.high c.slice_between.result
    (ranged (seen c.args.from.now) (seen c.args.to.now) c.in-Ok.low c.in-Ok.high (sym c.in-Ok.ensures)) c.slice_between.ensures

pub returns-in-Err : goal.returns-in-Err
returns-in-Err c = not_ranged of_list c.args.members.now (seen c.args.from.now) (seen c.args.to.now) c.in-Err.kind (sym c.in-Err.ensures)
