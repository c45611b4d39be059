use Rattle.term_order.proofs.laws.normal_terms_are_one.Goals as goal
use Rattle.term_order.proofs.OneTerm.{normal_terms_are_one}

pub returns : goal.returns
returns c = record { law = normal_terms_are_one }
