use Rattle.tokens.specs.Tables.{signs}
use Rattle.rho_lexer.proofs.bytes.is_sign.Goals as goal

pub returns : goal.returns
unfolding signs
returns c = c.contains.ensures
