use Rattle.printed_spelling.proofs.text_laws.printed_text_spells.Goals as goal
use Rattle.printed_spelling.proofs.TextSpelling.{printed_text_spells}

pub returns : goal.returns
returns c = record { law = printed_text_spells }
