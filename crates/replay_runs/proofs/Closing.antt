-- The answer to a log whose hub is closed.
use Rattle.std.proofs.Common.{◌≡◌, ◌≢◌, true, List, [], refl, ap, sym, ◌∙◌, subst, arith, inl, inr}
use Rattle.std.specs.Prelude.{◌⊎◌, Result, Ok, Err, IsPermutation}
use Rattle.calculus.proofs.Permutations.{join, moved_so}
use Rattle.calculus.specs.Log.{Step, Header}
use Rattle.calculus.specs.Rows.{channels, Row}
use Rattle.calculus.specs.Runs.{Deploy, Work, Verdict, done, exhausted, faulted, verdict, next_rows, IsEnd}
use Rattle.calculus.specs.Steps.{Bag, differ, standing, stored_rows}
use Rattle.events.specs.Events.{first_ids, AreFresh}
use Rattle.events.specs.Found.{Among}
use Rattle.events.proofs.Accounts.{distinct}
use Rattle.events.proofs.Counts.{ids, AreDistinct, differ-distinct, distinct-differ}
use Rattle.events.proofs.Orders.{times-moved}
use Rattle.events.proofs.EventStanding.{built_ins, ids-times, standing-times}
use Rattle.replays.specs.Replays.{Given, by_rest, by_end, deploy_under, outcome_of, output_of}
use Rattle.least_step.specs.Least.{HasRows, NothingIsUsedUp}
use Rattle.least_step.proofs.Past.{legal_lists_use_nothing_up}
use Rattle.replays.specs.View.{verdict_of}
use Rattle.replays.specs.declared.verdict.Verdict.{Verdict as Ended}
use Rattle.replays.specs.declared.verdict.Verdict.TheVariants.{Done, Exhausted, Faulted}
use Rattle.process_laws.proofs.StorableStaying.{storable_rows_stay}
use Rattle.replays.specs.declared.fault.ReplayFault.{ReplayFault}
use Rattle.replays.specs.declared.fault.ReplayFault.TheVariants.{Reducible, NoMemory}
use Rattle.replay_outcome.specs.declared.settling.Ending.{Ending}
use Rattle.replay_outcome.specs.Settling.{EndsSo}
use Rattle.hub_scenes.specs.Spaces.{DidStep}
use Rattle.hub_scenes.specs.Closing.{did_verdict, did_cost, did_lines, IsLegalLog}
use Rattle.replay_answers.specs.Answers.{Clashes, IsAnswered, IsReplayed}
use Rattle.replay_answers.specs.declared.replayed.Replayed.{Replayed}
use Rattle.replay_answers.proofs.Clashing.{fresh-or-clash}
use Rattle.replay_runs.specs.Endings.{EndsDone, IsSound}
use Rattle.replay_runs.proofs.Channels.{have-channels}

kept-rows : (v : Verdict) (old : List Row) (b : Bag) → v ≢ done → next_rows old v b ≡ old
kept-rows done old b n = absurd (n refl)
kept-rows exhausted old b n = refl
kept-rows (faulted i k) old b n = refl

only-done : (v : Ended) → verdict_of v ≡ done → v ≡ Done
only-done Done e = refl
only-done Exhausted e = cc
only-done (Faulted i k) e = cc

module _ (g : Given) (h : Header) (ss : List Step) (s : IsSound g h ss) (w : Work) (ds : List DidStep) (store : List Row) (l : IsLegalLog (deploy_under h.limit g) w ss ds store) where
  abbrev deploy : Deploy
  deploy = deploy_under h.limit g

  abbrev v : Verdict
  v = verdict g.prices h.limit l.state

  -- a run that ends here
  replayed-with : (r : Replayed) → verdict_of r.verdict ≡ did_verdict deploy w ds → r.cost ≡ did_cost deploy w ds → r.output.items ≡ output_of (did_verdict deploy w ds) (did_lines ds)
      → IsEnd g.prices h.limit l.state → (v ≡ done → IsPermutation r.rows.items (stored_rows l.state.bag)) → (v ≢ done → r.rows.items ≡ []) → IsReplayed g h ss r
  replayed-with r e k o ends is not = record {
    outcome = outcome_of (deploy_under h.limit g) l.state;
    answer = by_end s.right l.leads ends;
    verdict_is = l.verdict_is ∙ sym e;
    cost_is = l.cost_is ∙ sym k;
    output_is = ap (λ x. output_of x l.state.output) l.verdict_is ∙ ap (output_of (did_verdict (deploy_under h.limit g) w ds)) l.output ∙ sym o;
    left = λ d. subst (λ u. IsPermutation r.rows.items (next_rows g.rows u l.state.bag)) (sym d) (is d);
    lost = λ n. (kept-rows v g.rows l.state.bag n, not n);
  }

  -- with another verdict than done
  pub lost-answered : (e : Ending) → EndsSo (deploy_under h.limit g) w ds e → (e.verdict ≡ Done → ⊥) → (r : Replayed) → r.verdict ≡ e.verdict → r.cost ≡ e.cost → r.rows.items ≡ [] → r.output.items ≡ e.output.items → IsReplayed g h ss r
  lost-answered e so n r a b c d =
      let other : v ≢ done = λ x. n (only-done e.verdict (so.verdict ∙ sym l.verdict_is ∙ x)) in
      replayed-with r (ap verdict_of a ∙ so.verdict) (b ∙ so.cost) (d ∙ so.output) (λ x. absurd (other x)) (λ x. absurd (other x)) (λ _. c)

  -- where each row has a channel
  pub all-channels : (r : Row) → Among r store → channels r.part ≢ []
  all-channels = have-channels (stored_rows l.state.bag) store (storable_rows_stay (deploy_under h.limit g) s.storable s.closed ss l.state l.leads) l.rows_are

  module _ (fresh : AreFresh (deploy_under h.limit g) ss) where
    one : AreDistinct (ids (standing l.state.bag))
    one = distinct (deploy_under h.limit g) ss l.state fresh l.leads

    pub apart : differ (first_ids store) ≡ true
    apart = distinct-differ (first_ids store) (λ x. omega (arith, one x, standing-times x l.state.bag, times-moved x l.rows_are, ids-times x store built_ins))

    pub unused : NothingIsUsedUp l.state.bag l.state.made
    unused = legal_lists_use_nothing_up (deploy_under h.limit g) ss l.state l.leads fresh

  -- a run that ends done, or a step is still allowed
  pub done-answered : (e : Ending) → EndsSo (deploy_under h.limit g) w ds e → e.verdict ≡ Done → (x : Result Replayed ReplayFault) → EndsDone l.state.bag l.state.made store e.cost e.output.items x → IsAnswered g h ss x
  done-answered e so d (Ok r) f =
      let same : verdict_of r.verdict ≡ verdict_of e.verdict = ap verdict_of (f.1 ∙ sym d) in
      let is : v ≡ done = l.verdict_is ∙ sym so.verdict ∙ ap verdict_of d in
      replayed-with r (same ∙ so.verdict) (f.2 ∙ so.cost) (f.4 ∙ so.output) (λ _ u. f.0 u) (λ _. join f.3 (moved_so l.rows_are)) (λ n. absurd (n is))
  done-answered e so d (Err (Reducible cont taken)) f = by_rest s.right l.leads (l.verdict_is ∙ sym so.verdict ∙ ap verdict_of d) f
  done-answered e so d (Err NoMemory) f = tt
  done-answered e so d (Err _) f = absurd f

  -- where digests are fresh or clash
  pub fresh-so : AreFresh (deploy_under h.limit g) ss ⊎ Clashes (deploy_under h.limit g) ss
  fresh-so = fresh-or-clash (deploy_under h.limit g) ss s.fits s.ids l.state l.leads

  pub done-or-clash : (e : Ending) → EndsSo (deploy_under h.limit g) w ds e → e.verdict ≡ Done → (x : Result Replayed ReplayFault)
      → (((r : Row) → Among r store → channels r.part ≢ []) → HasRows l.state.bag store → differ (first_ids store) ≡ true → NothingIsUsedUp l.state.bag l.state.made → EndsDone l.state.bag l.state.made store e.cost e.output.items x)
      → IsAnswered g h ss x ⊎ Clashes (deploy_under h.limit g) ss
  done-or-clash e so d x ends = go fresh-so
    where
      go : AreFresh (deploy_under h.limit g) ss ⊎ Clashes (deploy_under h.limit g) ss → IsAnswered g h ss x ⊎ Clashes (deploy_under h.limit g) ss
      go (inl f) = inl (done-answered e so d x (ends all-channels l.rows_are (apart f) (unused f)))
      go (inr c) = inr c

-- rows whose ids and those of the built-in receivers differ, in another order
pub first-differ : (store rows : List Row) → IsPermutation rows store → differ (first_ids store) ≡ true → differ (first_ids rows) ≡ true
first-differ store rows p d =
    distinct-differ (first_ids rows) (λ x. omega (arith, differ-distinct (first_ids store) d x, times-moved x p, ids-times x rows built_ins, ids-times x store built_ins))
