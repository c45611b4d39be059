use Rattle.replay_rows.proofs.kept.count_if.Goals as goal

pub settle-requires-clause-low : goal.settle-requires-clause-low
settle-requires-clause-low c e = c.requires.low c.if-not-wanted.false
