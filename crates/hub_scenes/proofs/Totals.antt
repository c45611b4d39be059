-- What done steps come to, as a space keeps them.
use Rattle.std.proofs.Common.{◌≡◌, ℕ, zero, suc, ◌+◌, ◌*◌, Bool, true, false, cond, ◌||◌, List, [], ◌∷◌, ◌++◌, length, map as each, refl, ap, sym, ◌∙◌, arith}
use Rattle.std.specs.Prelude.{flat_map, sum_by, eqb, ltb}
use Rattle.std.proofs.lemmas.List.Sums.{sum_by-cons}
use Rattle.calculus.specs.Steps.{Bag}
use Rattle.calculus.specs.Runs.{Deploy, Work, work_price, work_fault, exhausted, fault_verdict, at_fault, total, verdict, cost}
use Rattle.events.specs.Entries.{first_fault}
use Rattle.racing_replays.specs.Replaying.{DoneStep, done_steps, is_done, done_at, in_order}
use Rattle.racing_replays.specs.Laws.{state_with}
use Rattle.hub_scenes.specs.Spaces.{DidStep}
use Rattle.hub_scenes.specs.ReplayScene.{did_step}
use Rattle.hub_scenes.specs.Closing.{is_did, did_at, in_log_order, did_total, did_verdict, did_cost, did_lines}
use Rattle.hub_scenes.proofs.Basics.{each-both, each-twice}

module _ (deploy : Deploy) where
  abbrev all_did : List DoneStep → List DidStep
  all_did ds = each (did_step deploy) ds

  pub did-is : (i : ℕ) (ds : List DoneStep) → is_did i (each (did_step deploy) ds) ≡ is_done i ds
  did-is i [] = refl
  did-is i (d ∷ ds) = ap (λ b. eqb i d.index || b) (did-is i ds)

  did-at : (i : ℕ) (ds : List DoneStep) → did_at i (each (did_step deploy) ds) ≡ each (did_step deploy) (done_at i ds)
  did-at i [] = refl
  did-at i (d ∷ ds) = go (eqb i d.index) (did-at i ds)
    where
      go : (b : Bool) → did_at i (each (did_step deploy) ds) ≡ each (did_step deploy) (done_at i ds)
          → cond b (did_step deploy d ∷ []) (did_at i (each (did_step deploy) ds)) ≡ each (did_step deploy) (cond b (d ∷ []) (done_at i ds))
      go true e = refl
      go false e = e

  pub ordered : (n : ℕ) (ds : List DoneStep) → in_log_order n (each (did_step deploy) ds) ≡ each (did_step deploy) (in_order n ds)
  ordered zero ds = refl
  ordered (suc n) ds = ap (λ l. l ++ did_at n (all_did ds)) (ordered n ds) ∙ ap (λ l. all_did (in_order n ds) ++ l) (did-at n ds) ∙ sym (each-both (did_step deploy) (in_order n ds) (done_at n ds))

  one-step : (c n : ℕ) → c * suc n ≡ c + c * n
  one-step c n = grind arith

  prices : (ds : List DoneStep) → deploy.prices.comm * length (done_steps ds) + sum_by (work_price deploy.limit) (each (λ d. d.work) ds) ≡ sum_by (λ d. d.price) (each (did_step deploy) ds)
  prices [] = grind arith
  prices (d ∷ ds) = omega (
    arith,
    one-step deploy.prices.comm (length (done_steps ds)),
    sum_by-cons (work_price deploy.limit) d.work (each (λ d. d.work) ds),
    sum_by-cons (λ (x : DidStep). x.price) (did_step deploy d) (each (did_step deploy) ds),
    prices ds,
  )

  faults : (i : ℕ) (ws : List Work) → fault_verdict i ws ≡ first_fault i (each work_fault ws)
  faults i [] = refl
  faults i (w ∷ ws) = ap (at_fault i (work_fault w)) (faults (suc i) ws)

  pub lines : (ds : List DoneStep) → flat_map (λ d. d.printed) ds ≡ did_lines (each (did_step deploy) ds)
  lines [] = refl
  lines (d ∷ ds) = ap (λ l. d.printed ++ l) (lines ds)

  module _ (w : Work) (b : Bag) (ds : List DoneStep) where
    pub total-is : total deploy.prices deploy.limit (state_with w b ds) ≡ did_total deploy w (each (did_step deploy) ds)
    total-is = omega (arith, sum_by-cons (work_price deploy.limit) w (each (λ d. d.work) ds), prices ds)

    first-fault : fault_verdict 0 (w ∷ each (λ d. d.work) ds) ≡ first_fault 0 (work_fault w ∷ each (λ d. d.fault) (each (did_step deploy) ds))
    first-fault = faults 0 (w ∷ each (λ d. d.work) ds) ∙ ap (λ l. first_fault 0 (work_fault w ∷ l)) (each-twice work_fault (λ d. d.work) (λ d. work_fault d.work) (λ d. refl) ds ∙ sym (each-twice (λ d. d.fault) (did_step deploy) (λ d. work_fault d.work) (λ d. refl) ds))

    pub verdict-is : verdict deploy.prices deploy.limit (state_with w b ds) ≡ did_verdict deploy w (each (did_step deploy) ds)
    verdict-is = ap (λ n. cond (ltb deploy.limit n) exhausted (fault_verdict 0 (w ∷ each (λ d. d.work) ds))) total-is ∙ ap (λ v. cond (ltb deploy.limit (did_total deploy w (each (did_step deploy) ds))) exhausted v) first-fault

    pub cost-is : cost deploy.prices deploy.limit (state_with w b ds) ≡ did_cost deploy w (each (did_step deploy) ds)
    cost-is = ap (λ n. cond (ltb deploy.limit n) deploy.limit n) total-is
