-- What a run leaves, from what was played.
use Rattle.std.proofs.Common.{◌≡◌, ◌≢◌, ◌⊎◌, inl, inr, ℕ, List, ◌∷◌, ◌++◌, refl, sym, ◌∙◌, ap, subst}
use Rattle.std.specs.Prelude.{IsPermutation}
use Rattle.calculus.specs.Log.{Step}
use Rattle.calculus.specs.Rows.{Row}
use Rattle.calculus.specs.Root.{root}
use Rattle.calculus.specs.Steps.{Bag, stored_rows}
use Rattle.calculus.specs.Runs.{Deploy, State, IsLegal, IsRun, Verdict, done, verdict, next_rows}
use Rattle.events.specs.States.{state_text}
use Rattle.events.proofs.Groups.{root_ignores_order, text_ignores_order}
use Rattle.events.specs.Events.{AreFresh}
use Rattle.events.proofs.Spending.{ids_are_spent_once}
use Rattle.replays.specs.View.{verdict_of}
use Rattle.replays.specs.declared.verdict.Verdict.{Verdict as Ending}
use Rattle.replays.specs.declared.verdict.Verdict.TheVariants as ending
use Rattle.play_outcome.specs.Runs.{IsRunOf}
use Rattle.recorded_runs.specs.Runs.{printed, SpendsOnce, ShowsAClash, IsLeftByRun}

-- along a run whose digests are fresh no id is spent twice
spends-once : (deploy : Deploy) (ss : List Step) (a : State) → IsRun deploy ss a → AreFresh deploy ss → SpendsOnce deploy ss
spends-once deploy ss a r f before between after s u id e h k =
    let legal : IsLegal deploy (before ++ s ∷ (between ++ u ∷ after)) = subst (IsLegal deploy) e (a, r.leads) in
    let fresh : AreFresh deploy (before ++ s ∷ (between ++ u ∷ after)) = subst (AreFresh deploy) e f in
    ids_are_spent_once deploy before between after s u id legal fresh h k

-- the root and the text of the rows that a run leaves, in any order where it is done
module _ (b : Bag) (rows base : List Row) (digest text : List ℕ) where
  ends-with : (v : Ending) → (verdict_of v ≡ done → IsPermutation rows (stored_rows b)) → (v ≡ ending.Done → (digest ≡ root rows) × (text ≡ state_text rows)) → (v ≢ ending.Done → (digest ≡ root base) × (text ≡ state_text base))
      → (digest ≡ root (next_rows base (verdict_of v) b)) × (text ≡ state_text (next_rows base (verdict_of v) b))
  ends-with ending.Done m d o = ((d refl).0 ∙ root_ignores_order _ _ (m refl), (d refl).1 ∙ text_ignores_order _ _ (m refl))
  ends-with ending.Exhausted m d o = o (λ e. cc)
  ends-with (ending.Faulted step kind) m d o = o (λ e. cc)

-- what was played is what the run leaves, with the root and the text of its rows
left-by-run : (deploy : Deploy) (steps : List Step) (v : Ending) (charge : ℕ) (rows : List Row) (output digest text : List ℕ) (count : ℕ)
    → IsRunOf deploy steps (verdict_of v) charge rows output
    → (v ≡ ending.Done → (digest ≡ root rows) × (text ≡ state_text rows)) → (v ≢ ending.Done → (digest ≡ root deploy.rows) × (text ≡ state_text deploy.rows))
    → IsLeftByRun deploy (record { steps = steps; next = text; output = printed (verdict_of v) output; report = record { verdict = v; cost = charge; root = digest; steps = count } })
left-by-run deploy steps v charge rows output digest text count r d o =
    let Ends = λ (w : Verdict). (digest ≡ root (next_rows deploy.rows w r.state.bag)) × (text ≡ state_text (next_rows deploy.rows w r.state.bag)) in
    let ends : Ends (verdict deploy.prices deploy.limit r.state) = subst Ends (sym r.verdict_is) (ends-with r.state.bag rows deploy.rows digest text v r.left d o) in
    record {
      state = r.state;
      run = r.run;
      once = spends-once deploy steps r.state r.run r.fresh;
      verdict_is = sym r.verdict_is;
      cost_is = sym r.cost_is;
      root_is = ends.0;
      next_is = ends.1;
      output_is = ap (λ w. printed w output) (sym r.verdict_is) ∙ ap (printed (verdict deploy.prices deploy.limit r.state)) (sym r.output_is);
    }

-- or digests are shown to clash
pub left_or_clash : (deploy : Deploy) (steps : List Step) (v : Ending) (charge : ℕ) (rows : List Row) (output digest text : List ℕ) (count : ℕ)
    → IsRunOf deploy steps (verdict_of v) charge rows output ⊎ ShowsAClash deploy steps
    → (v ≡ ending.Done → (digest ≡ root rows) × (text ≡ state_text rows)) → (v ≢ ending.Done → (digest ≡ root deploy.rows) × (text ≡ state_text deploy.rows))
    → IsLeftByRun deploy (record { steps = steps; next = text; output = printed (verdict_of v) output; report = record { verdict = v; cost = charge; root = digest; steps = count } }) ⊎ ShowsAClash deploy steps
left_or_clash deploy steps v charge rows output digest text count (inl r) d o = inl (left-by-run deploy steps v charge rows output digest text count r d o)
left_or_clash deploy steps v charge rows output digest text count (inr k) d o = inr k
