use Rattle.std.proofs.Common.{sym}
use Rattle.calculus.specs.Bytes.{joined}
use Rattle.calculus.specs.Operators.{of_text, of_bytes, seen}
use Rattle.calculus.specs.Texts.{characters}
use Rattle.value_ops.proofs.Arguments.{ranged, not_ranged, at_range}
use Rattle.value_ops.proofs.methods.part_of_text.Goals as goal

pub slice_text-requires : goal.slice_text-requires
slice_text-requires c = (ranged (seen c.args.from.now) (seen c.args.to.now) c.in-Ok.start c.in-Ok.end (sym c.in-Ok.ensures)).rises

pub returns-in-Ok : goal.returns-in-Ok
returns-in-Ok c = at_range (λ cs. of_text (joined cs)) (characters c.args.text.now) (seen c.args.from.now) (seen c.args.to.now) c.in-Ok.start c.in-Ok.end c.slice_text.result (ranged (seen c.args.from.now) (seen c.args.to.now) c.in-Ok.start c.in-Ok.end (sym c.in-Ok.ensures)) c.slice_text.ensures

pub returns-in-Err : goal.returns-in-Err
returns-in-Err c = not_ranged (λ cs. of_text (joined cs)) (characters c.args.text.now) (seen c.args.from.now) (seen c.args.to.now) c.in-Err.kind (sym c.in-Err.ensures)
