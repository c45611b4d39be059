use Rattle.tokens.specs.Tables.{keys}
use Rattle.rho_lexer.proofs.bytes.is_key.Goals as goal

pub returns : goal.returns
unfolding keys
returns c = c.contains.ensures
