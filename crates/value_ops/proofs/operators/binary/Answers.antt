use Rattle.value_ops.proofs.Seeing.{eq_answer, ne_answer, other_answer}
use Rattle.value_ops.proofs.operators.binary.Goals as goal
use Rattle.value_ops.proofs.operators.binary.Goals.{in-Eq, in-Ne, in_default}

pub returns : goal.returns
returns c = λ h. c.process_of.ensures _ (elim c.match-op.branch [
  | in-Eq w ↦ eq_answer c.args.op c.args.left.now c.args.right.now c.match-op.value w.are_equal.result w.in-Eq.is w.value-is w.are_equal.ensures h
  | in-Ne w ↦ ne_answer c.args.op c.args.left.now c.args.right.now c.match-op.value w.are_equal-in-Ne.result w.in-Ne.is w.value-is w.are_equal-in-Ne.ensures h
  | in_default w ↦ other_answer c.args.op c.args.left.now c.args.right.now c.match-op.value w.on_kinds-value.result w.in_default.not-Eq w.in_default.not-Ne w.value-is w.on_kinds-value.ensures
])
