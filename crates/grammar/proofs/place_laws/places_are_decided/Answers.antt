use Rattle.grammar.proofs.Decided.{one_place, one_end, apart, higher}
use Rattle.grammar.proofs.place_laws.places_are_decided.Goals as goal

pub returns-clause-one_place : goal.returns-clause-one_place
returns-clause-one_place c = λ n d free tokens j k a b. one_place n d free tokens j k a b

pub returns-clause-higher : goal.returns-clause-higher
returns-clause-higher c = λ n d free tokens k p h b s. higher n d free tokens k p h b s

pub returns-clause-one_end : goal.returns-clause-one_end
returns-clause-one_end c = λ n d free tokens j k a b. one_end n d free tokens j k a b

pub returns-clause-apart : goal.returns-clause-apart
returns-clause-apart c = λ n d free tokens j k a b. apart n d free tokens j k a b
