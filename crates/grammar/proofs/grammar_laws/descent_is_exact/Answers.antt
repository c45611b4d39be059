use Rattle.grammar.specs.Terminals.{terminals}
use Rattle.grammar.proofs.Agree.{same}
use Rattle.grammar.proofs.Sound.{sound}
use Rattle.grammar.proofs.Wider.{complete, nothing}
use Rattle.grammar.proofs.grammar_laws.descent_is_exact.Goals as goal

pub returns-clause-reads_what_is_spelt : goal.returns-clause-reads_what_is_spelt
returns-clause-reads_what_is_spelt c = λ n d tokens p h free s l. complete d (terminals n tokens) p h free s l

pub returns-clause-what_it_reads_is_spelt : goal.returns-clause-what_it_reads_is_spelt
returns-clause-what_it_reads_is_spelt c = λ n d tokens v free rest k. sound k

pub returns-clause-one_outcome : goal.returns-clause-one_outcome
returns-clause-one_outcome c = λ n d tokens free a b h k s t. same h k s t

pub returns-clause-syntax_spells_nothing : goal.returns-clause-syntax_spells_nothing
returns-clause-syntax_spells_nothing c = λ n d tokens free rest k. nothing d free (terminals n tokens) rest k
