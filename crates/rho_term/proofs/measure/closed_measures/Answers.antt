use Rattle.rho_term.proofs.measure.closed_measures.Goals as goal

pub closed_faults-requires : goal.closed_faults-requires
closed_faults-requires c = c.part_measures-found.ensures.1.1

pub returns : goal.returns
returns c =
    let found = c.part_measures-found.ensures in
    (found.0, (found.1.0, c.closed_faults.ensures, found.1.2))
