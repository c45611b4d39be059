use Rattle.std.proofs.Common.{refl, rules}
use Rattle.recorded_runs.proofs.replaying.answer_plan.Goals as goal

pub returns : goal.returns
returns c = record {
  digest = c.in_ok-root.root.0;
  done = c.in_ok-root.ensures.done;
  old = c.in_ok-root.ensures.old;
  bytes = search rules;
  line = c.in_ok-line.ensures;
  verdict = refl;
}
