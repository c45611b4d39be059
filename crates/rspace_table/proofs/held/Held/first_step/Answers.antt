use Rattle.rspace_table.proofs.held.Held.first_step.Goals as goal

pub look-requires : goal.look-requires
look-requires c = c.is_in_place.ensures c.if-is_in_place.true
