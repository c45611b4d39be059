use Rattle.hub_runs.proofs.runs.open.Goals as goal

pub start-requires-clause-opens : goal.start-requires-clause-opens
start-requires-clause-opens c κs = ((λ k. 0), c.in_ok-shards.ensures.zero, tt)
