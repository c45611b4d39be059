use Rattle.replay_runs.proofs.Answering.{undone-answered, ended-answered}
use Rattle.replay_runs.proofs.ending.answer_of.Goals as goal

pub returns-in-NoRun-clause-answered : goal.returns-in-NoRun-clause-answered
returns-in-NoRun-clause-answered c = λ g h ss e n s r. undone-answered g h ss s c.args.raced r c.args.count c.args.limit e n _ c.in_ok-step.ensures _ c.in-NoRun.is

pub returns-in-Ended-clause-answered : goal.returns-in-Ended-clause-answered
returns-in-Ended-clause-answered c = λ g h ss e n s r. ended-answered g h ss s c.args.raced r c.args.count c.args.limit e n _ c.in_ok-step.ensures _ c.in-Ended.is _ c.end.ensures.answered
