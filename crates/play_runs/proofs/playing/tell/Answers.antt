use Rattle.play_runs.proofs.playing.tell.Goals as goal

pub returns-clause-run : goal.returns-clause-run
returns-clause-run g c deploy source l p f closed storable x = c.outcome.ensures.run deploy source l p f c.requires.shards closed storable x
