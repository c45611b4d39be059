use Rattle.tokens.proofs.Order.{each_comes_to}
use Rattle.tokens.proofs.each_text_is_read.Goals as goal

pub returns : goal.returns
returns c = each_comes_to
