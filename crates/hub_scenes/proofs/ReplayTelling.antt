-- What decides a log tells its answer.
use Rattle.std.proofs.Common.{◌≡◌, false, true, List, length, refl, sym, ap, subst, ◌∙◌, IsPermutation, append-nil}
use Rattle.std.specs.Prelude.{Option, Some, None, IsSome}
use Rattle.calculus.specs.Log.{Step}
use Rattle.calculus.specs.Rows.{Row}
use Rattle.calculus.specs.Steps.{Bag, Meeting, meeting, stored_rows}
use Rattle.calculus.specs.Runs.{Deploy, Work, Verdict, done, exhausted, faulted, next_rows, IsEnd}
use Rattle.calculus.proofs.Permutations.{unmoved}
use Rattle.events.specs.Events.{stored}
use Rattle.replays.specs.Replays.{outcome_of, output_of, deploy_under, by_step, by_rest, by_end}
use Rattle.hub_scenes.specs.Closing.{IsLegalLog, in_log_order, did_verdict, IsDidOutcome}
use Rattle.hub_scenes.specs.Spaces.{DidStep}
use Rattle.hub_scenes.specs.ReplayLaws.{DecidedLogsAreAnswered}

none-from : (x y : Option Meeting) → (IsSome y → IsSome x) → x ≡ None → y ≡ None
none-from x None f e = refl
none-from x (Some m) f e = absurd (no (subst IsSome e (f refl)))
  where
    no : false ≡ true → ⊥
    no e = cc

rows-for : (rows : List Row) (v : Verdict) (b d : Bag) → IsPermutation (stored_rows b) (stored_rows d) → IsPermutation (next_rows rows v b) (next_rows rows v d)
rows-for rows done b d h = h
rows-for rows exhausted b d h = unmoved rows
rows-for rows (faulted i f) b d h = unmoved rows

module _ (deploy : Deploy) (w : Work) (ss : List Step) (ds : List DidStep) (rows : List Row) (l : IsLegalLog deploy w ss ds rows) where
  at-rest : (did_verdict deploy w ds ≡ done → (s : Step) → meeting (stored rows) ss s ≡ None) → IsEnd deploy.prices deploy.limit l.state
  at-rest quiet v s = none-from (meeting (stored rows) ss s) (meeting l.state.bag l.state.made s) (l.allowed s).1 (quiet (sym l.verdict_is ∙ v) s)

  outcome : IsDidOutcome deploy w ds rows (outcome_of deploy l.state)
  outcome = record {
    verdict_is = l.verdict_is;
    cost_is = l.cost_is;
    output_is = ap (λ v. output_of v l.state.output) l.verdict_is ∙ ap (output_of (did_verdict deploy w ds)) l.output;
    rows_are = subst (λ v. IsPermutation (next_rows deploy.rows v l.state.bag) (next_rows deploy.rows (did_verdict deploy w ds) (stored rows))) (sym l.verdict_is)
        (rows-for deploy.rows (did_verdict deploy w ds) l.state.bag (stored rows) (subst (λ rs. IsPermutation (stored_rows l.state.bag) rs) (sym (append-nil rows)) l.rows_are));
  }

pub decided_logs_are_answered : DecidedLogsAreAnswered
decided_logs_are_answered g h ss w ds closed right d = record {
  stops = λ i l first. by_step right (d.stops i l first);
  goes_on = λ all v s least. (let l = d.legal all in by_rest right l.leads (l.verdict_is ∙ v) (record { allowed = (l.allowed s).0 least.allowed; least = λ u e. least.least u ((l.allowed u).1 e) }));
  ends = λ all quiet. (
    outcome_of (deploy_under h.limit g) (d.legal all).state,
    (
      by_end right (d.legal all).leads (at-rest (deploy_under h.limit g) w ss (in_log_order (length ss) ds) d.store (d.legal all) quiet),
      outcome (deploy_under h.limit g) w ss (in_log_order (length ss) ds) d.store (d.legal all),
    ),
  );
}
