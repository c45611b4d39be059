use Rattle.calculus.specs.Form.{part}
use Rattle.rho_term.specs.Parts.{part_tree}
use Rattle.rho_term.proofs.Measuring.{HasCount, HasParts}
use Rattle.rho_term.proofs.measure.parts_measures.Given as goal

abbrev pub invariant-loop-part : goal.invariant-loop-part
invariant-loop-part l = HasParts part_tree l.parts.items l.part-index × HasCount part part_tree l.parts.items l.part-index l.total
