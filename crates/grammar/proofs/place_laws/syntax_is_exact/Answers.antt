use Rattle.grammar.specs.declared.fault.Fault.TheVariants.{Syntax}
use Rattle.grammar.proofs.Behind.{behind_end}
use Rattle.grammar.proofs.Exact.{syntax, refused, before, behind}
use Rattle.grammar.proofs.place_laws.syntax_is_exact.Goals as goal

pub returns-clause-in_a_source : goal.returns-clause-in_a_source
returns-clause-in_a_source c = λ d free tokens rest k. syntax d free tokens rest k

pub returns-clause-refused : goal.returns-clause-refused
returns-clause-refused c = λ n d free tokens rest k b. refused n d free tokens rest k b

pub returns-clause-before : goal.returns-clause-before
returns-clause-before c = λ n d free tokens rest k. before n d free tokens rest Syntax k (λ e. absurd (cc (e)))

pub returns-clause-behind_a_process : goal.returns-clause-behind_a_process
returns-clause-behind_a_process c = λ n d free tokens v rest k s. behind n d free tokens v rest k s

pub returns-clause-behind_the_end : goal.returns-clause-behind_the_end
returns-clause-behind_the_end c = λ n d free tokens v rest k. behind_end n d free tokens v rest k
