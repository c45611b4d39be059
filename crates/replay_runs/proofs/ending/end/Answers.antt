use Rattle.std.proofs.Common.{refl, inl}
use Rattle.replay_runs.proofs.Closing.{done-or-clash, lost-answered}
use Rattle.replay_runs.proofs.ending.end.Goals as goal

pub returns-in-Done-clause-answered : goal.returns-in-Done-clause-answered
returns-in-Done-clause-answered c =
    λ g h ss w ds store s are l so. done-or-clash g h ss s w ds store l c.args.ending so c.in-Done.is c.end_done.result (λ channels has apart none. c.end_done.ensures.ends l.state.bag l.state.made store are channels has apart none)

pub returns-in_default : goal.returns-in_default
returns-in_default c = record {
  steps = tt;
  answered = λ g h ss w ds store s are l so. inl (lost-answered g h ss s w ds store l c.args.ending so c.in_default.not-Done _ refl refl c.new.ensures.items refl);
}
