use Rattle.printed_spelling.proofs.text_laws.printed_text_comes_back.Goals as goal
use Rattle.printed_spelling.proofs.TextSpelling.{printed_text_comes_back, printed_text_spells_one}

pub returns-clause-spells : goal.returns-clause-spells
returns-clause-spells c = printed_text_comes_back

pub returns-clause-spells_no_other : goal.returns-clause-spells_no_other
returns-clause-spells_no_other c = printed_text_spells_one
