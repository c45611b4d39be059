use Rattle.term_order.proofs.examples.order_examples.Goals as goal
use Rattle.term_order.proofs.ExamplesOrder.{order_examples}

pub returns : goal.returns
returns c = record { examples = order_examples }
