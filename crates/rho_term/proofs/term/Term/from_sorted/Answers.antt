use Rattle.rho_term.proofs.term.Term.from_sorted.Goals as goal

pub invariant_of-result : goal.invariant_of-result
invariant_of-result c = (
  (c.requires.parts, c.parts_measures-measures.ensures.normal c.requires.members),
  c.parts_measures-measures.ensures.count.0,
  c.parts_measures-measures.ensures.count.1,
  c.parts_measures-measures.ensures.count.2,
)
