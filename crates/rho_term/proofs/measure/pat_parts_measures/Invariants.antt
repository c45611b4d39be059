use Rattle.calculus.specs.Form.{name_part, pat_part}
use Rattle.rho_term.specs.Parts.{pat_part_tree}
use Rattle.rho_term.proofs.Measuring.{HasCount, HasFaults, HasParts}
use Rattle.rho_term.proofs.measure.pat_parts_measures.Given as goal

abbrev pub invariant-loop-part : goal.invariant-loop-part
invariant-loop-part l =
    HasParts pat_part_tree l.parts.items l.part-index × HasFaults name_part pat_part_tree l.parts.items l.part-index l.names × HasCount pat_part pat_part_tree l.parts.items l.part-index l.total
