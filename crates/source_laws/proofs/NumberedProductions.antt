-- The cost of each production.
use Rattle.std.proofs.Common.{◌+◌, arith}
use Rattle.grammar.specs.declared.dialect.Dialect.{Dialect}
use Rattle.grammar.specs.declared.dialect.Dialect.TheVariants.{Tutorial}
use Rattle.grammar.specs.Grammar.{rule}
use Rattle.grammar.specs.Productions.{Prod}
use Rattle.grammar.specs.Rules.{Sort}
use Rattle.grammar.specs.Values.{processes, patterns}
use Rattle.source_laws.proofs.Sizes.{sizes-more, size-first, size-form, names-on, names-more, size-par}
use Rattle.source_laws.proofs.Costs.{given, lead, slack, Costs}

pub rule_costs : (d : Dialect) {s : Sort} (p : Prod s) → Costs (slack s) (given s + lead s) (rule d p)
rule_costs d (Prod.par processes) = omega arith
rule_costs d (Prod.par patterns) = omega arith
rule_costs d (Prod.par_end side ps h) = omega (arith, size-par side ps)
rule_costs d (Prod.par_more processes ps h) = omega (arith, sizes-more)
rule_costs d (Prod.par_more patterns ps h) = omega (arith, sizes-more)
rule_costs Tutorial Prod.for_form = omega arith
rule_costs d p = omega (arith, sizes-more, size-first, size-form, names-on, names-more)
