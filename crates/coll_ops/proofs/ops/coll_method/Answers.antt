use Rattle.calculus.specs.Methods.{method_answer}
use Rattle.coll_ops.proofs.ops.coll_method.Goals as goal

pub returns : goal.returns
unfolding method_answer
returns c = c.answer.ensures _ c.kinds_method-told.ensures
