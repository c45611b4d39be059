use Rattle.printed_spelling.proofs.term_laws.spelled_is_ordered.Goals as goal
use Rattle.printed_spelling.proofs.TermSpelling.{spelled_is_ordered}

pub returns : goal.returns
returns c = record { law = spelled_is_ordered }
