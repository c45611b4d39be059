use Rattle.grammar.proofs.Behind.{found}
use Rattle.grammar.proofs.Exact.{exact, beyond, in_each}
use Rattle.grammar.proofs.place_laws.too_deep_is_exact.Goals as goal

pub returns-clause-in_a_source : goal.returns-clause-in_a_source
returns-clause-in_a_source c = λ d free tokens rest k. exact d free tokens rest k

pub returns-clause-beyond : goal.returns-clause-beyond
returns-clause-beyond c = λ n d free tokens rest k. beyond n d free tokens rest k

pub returns-clause-in_each_notation : goal.returns-clause-in_each_notation
returns-clause-in_each_notation c = λ n d free tokens rest k. in_each n d free tokens rest k

pub returns-clause-found : goal.returns-clause-found
returns-clause-found c = λ d free tokens k out a r s. found d free tokens k out a r s
