use Rattle.std.proofs.Common.{◌≡◌, ◌∙◌, ◌++◌, List, ℕ, ap, length, map, refl, subst}
use Rattle.event_log.specs.Laws.{AreSteps}
use Rattle.event_log.specs.View.{step_of}
use Rattle.event_log.specs.declared.log.LogStep.{LogStep}
use Rattle.run_reports.specs.Report.{report_line}
use Rattle.replays.specs.View.{verdict_of}
use Rattle.recorded_runs.specs.Runs.{printed}
use Rattle.recorded_runs.proofs.deploys.plan_of.Goals as goal

pub returns : goal.returns
returns c =
    let o = c.args.played in
    let m = c.in_ok-next.ensures in
    let count : c.len-count.result ≡ length o.steps.items = c.len-count.ensures ∙ o.steps.ok.0 in
    record {
      digest = m.digest;
      done = m.done;
      old = m.old;
      readable = subst (λ (ss : List LogStep). AreSteps (map step_of ss)) c.as_slice.ensures.value c.steps_are_readable.ensures;
      log = c.in_ok-log.ensures;
      bytes = m.bytes ∙ ap (λ (n : ℕ). printed (verdict_of o.verdict) o.output.items ++ report_line (record { verdict = o.verdict; cost = o.cost; root = m.digest; steps = n })) count;
      verdict = refl;
    }
