use Rattle.calculus.specs.Operators.{unary_answer}
use Rattle.value_ops.proofs.operators.unary.Goals as goal

pub returns : goal.returns
unfolding unary_answer
returns c = c.process_of.ensures _ c.on_kind.ensures
