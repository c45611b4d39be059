use Rattle.calculus.specs.Methods.{method_answer}
use Rattle.value_ops.proofs.methods.text_method.Goals as goal

pub returns : goal.returns
unfolding method_answer
returns c = c.process_of.ensures _ c.on_kind.ensures
