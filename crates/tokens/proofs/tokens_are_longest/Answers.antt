use Rattle.tokens.proofs.Order.{step_is_longest}
use Rattle.tokens.proofs.tokens_are_longest.Goals as goal

pub returns : goal.returns
returns c = step_is_longest
