use Rattle.std.proofs.Common.{ℕ, List, ap, ◌∙◌, ◌++◌, Some}
use Rattle.replay_outcome.proofs.Summing.{one-more}
use Rattle.replay_outcome.proofs.sum.add_step.Goals as goal

pub returns : goal.returns
returns c price fault ds d s len p f l =
    one-more price fault ds c.args.sum.now (record { total = c.saturating_add-sum.result; verdict = c.verdict_with-sum.result; lines = c.add_line.new.lines }) s d c.args.came p f l c.saturating_add-sum.ensures
    c.in_ok-add_line.ensures (λ e i q. c.verdict_with-sum.ensures.none e i (q ∙ ap (λ n. Some n) len)) c.verdict_with-sum.ensures.some
