use Rattle.printed_spelling.proofs.term_laws.ordered_is_congruent.Goals as goal
use Rattle.printed_spelling.proofs.TermSpelling.{ordered_congruent}

pub returns : goal.returns
returns c = record { law = ordered_congruent }
