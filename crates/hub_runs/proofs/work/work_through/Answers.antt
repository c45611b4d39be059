use Rattle.hub_runs.proofs.work.work_through.Goals as goal

pub do_work-requires-clause-work : goal.do_work-requires-clause-work
do_work-requires-clause-work g c = let t = c.in-Some-take_op.ensures.taken in (t.0, t.1, c.in-Some-take_op.ensures.new.0)
