use Rattle.hub_runs.proofs.cases.work_and_stop.Goals as goal

pub do_work-requires-clause-work : goal.do_work-requires-clause-work
do_work-requires-clause-work g c = let t = c.in-Some.ensures.taken in (t.0, t.1, c.in-Some.ensures.new.0)
