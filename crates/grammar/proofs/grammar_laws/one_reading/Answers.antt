use Rattle.grammar.proofs.OneReading.{one_reading}
use Rattle.grammar.proofs.grammar_laws.one_reading.Goals as goal

pub returns-clause-one_process : goal.returns-clause-one_process
returns-clause-one_process c = λ n d ts p q h k a b. (one_reading n d ts p q h k a b).0

pub returns-clause-one_height : goal.returns-clause-one_height
returns-clause-one_height c = λ n d ts p q h k a b. (one_reading n d ts p q h k a b).1
