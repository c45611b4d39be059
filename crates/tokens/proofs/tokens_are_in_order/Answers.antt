use Rattle.tokens.proofs.Order.{tokens_in_order}
use Rattle.tokens.proofs.tokens_are_in_order.Goals as goal

pub returns : goal.returns
returns c = tokens_in_order
