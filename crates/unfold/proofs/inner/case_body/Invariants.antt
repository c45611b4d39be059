use Rattle.std.proofs.Common.{map}
use Rattle.rho_term.specs.Parts.{case_tree}
use Rattle.unfold.proofs.Cases.{Tried}
use Rattle.unfold.proofs.inner.case_body.Given as goal

abbrev pub invariant-loop-case : goal.invariant-loop-case
invariant-loop-case l = let b = l.fn.budget in Tried b.prices.now l.target (map case_tree l.fn.cases.items) b.cap b.price l.price l.case-iterator.rest.items
