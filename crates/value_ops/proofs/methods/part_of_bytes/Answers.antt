use Rattle.std.proofs.Common.{sym}
use Rattle.calculus.specs.Bytes.{joined}
use Rattle.calculus.specs.Operators.{of_text, of_bytes, seen}
use Rattle.calculus.specs.Texts.{characters}
use Rattle.value_ops.proofs.Arguments.{ranged, not_ranged, at_range}
use Rattle.value_ops.proofs.methods.part_of_bytes.Goals as goal

pub slice_bytes-requires : goal.slice_bytes-requires
slice_bytes-requires c = (ranged (seen c.args.from.now) (seen c.args.to.now) c.in-Ok.start c.in-Ok.end (sym c.in-Ok.ensures)).rises

pub returns-in-Ok : goal.returns-in-Ok
returns-in-Ok c = at_range of_bytes c.args.bytes.now (seen c.args.from.now) (seen c.args.to.now) c.in-Ok.start c.in-Ok.end c.slice_bytes.result (ranged (seen c.args.from.now) (seen c.args.to.now) c.in-Ok.start c.in-Ok.end (sym c.in-Ok.ensures)) c.slice_bytes.ensures

pub returns-in-Err : goal.returns-in-Err
returns-in-Err c = not_ranged of_bytes c.args.bytes.now (seen c.args.from.now) (seen c.args.to.now) c.in-Err.kind (sym c.in-Err.ensures)
