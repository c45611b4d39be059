-- The digests that events make, one event after another.
use Rattle.std.proofs.Common.{◌≡◌, ◌≤◌, ℕ, suc, true, List, [], ◌∷◌, ◌++◌, length, refl, ap, sym, ◌∙◌, subst, arith, inl, inr}
use Rattle.std.specs.Prelude.{◌⊎◌, None, Some}
use Rattle.calculus.specs.Log.{Step}
use Rattle.calculus.specs.Steps.{Meeting, standing, meeting, printed_line}
use Rattle.calculus.specs.Runs.{Deploy, Work, body_work, Leads}
use Rattle.events.specs.Events.{stored, AreFresh}
use Rattle.events.proofs.Counts.{ids, AreDistinct}
use Rattle.events.proofs.Meetings.{meeting_at}
use Rattle.events.proofs.EventFollowing.{append_nothing}
use Rattle.events.specs.Premises.{FitsInTexts}
use Rattle.events.proofs.Concluding.{legal_lists_are_fresh_or_show_an_id}
use Rattle.racing_replays.specs.Replaying.{DoneStep, Replay, first_replay, done_steps, is_due, after_step, Replays, none_yet, one_more}
use Rattle.racing_replays.specs.Racing.{RacingState, Finishes, Races, no_event, arrival, done_index, idle_try}
use Rattle.racing_replays.specs.Laws.{first_bag, state_of, IsFresh}
use Rattle.racing_replays.specs.Answering.{Clashes, SomeClash}
use Rattle.racing_replays.specs.RacingLaws.{RacesAreFresh, RacesAreFreshOrClash}
use Rattle.racing_replays.proofs.Keeping.{universe}
use Rattle.racing_replays.proofs.Transfer.{bag-distinct}
use Rattle.racing_replays.proofs.Doing.{entry}
use Rattle.racing_replays.proofs.Walking.{one-longer}
use Rattle.racing_replays.proofs.Agreeing.{fresh-rows}
use Rattle.racing_replays.proofs.Legal.{replays_are_legal}
use Rattle.racing_replays.proofs.Premises.{replays_of_fresh_walks_are_fresh}
use Rattle.racing_replays.proofs.Together.{InBoth, meets-too}
use Rattle.racing_replays.proofs.Going.{store-distinct, store-there}
use Rattle.racing_replays.proofs.Racing.{Holds, holds-now}

made-length : (ds : List DoneStep) → length (done_steps ds) ≡ length ds
made-length [] = refl
made-length (d ∷ ds) = ap suc (made-length ds)

module _ (deploy : Deploy) (v : Work) (ss : List Step) where
  -- a replay that did this
  record Did (ds : List DoneStep) : Type 0 where
    replay : Replay
    replays : Replays deploy.prices deploy.limit (first_bag deploy.rows v) ss replay
    same : replay.done ≡ ds

  -- the next step is one of a replay
  next-did : ((s : Step) → meeting (stored deploy.rows) [] s ≡ None) → (c d : RacingState) → Races deploy v ss c → IsFresh deploy.rows v c.done → Finishes deploy.prices deploy.limit (first_bag deploy.rows v) ss c d → Did d.done
  next-did quiet c d es f e = record {
    replay = after_step h.replay (length e.before) e.step there e.work;
    replays = one_more h.going.replays (record {
      before = e.before;
      step = e.step;
      after = e.after;
      log = e.log;
      due = subst (λ ds. is_due (first_bag deploy.rows v) ds e.before e.step ≡ true) h.same e.due;
      found = there;
      allowed = both.allowed;
      room = e.room;
      work = e.work;
      works = subst (λ x. body_work deploy.prices deploy.limit e.room e.step x ≡ Some e.work) both.is e.works;
      is = refl;
    });
    same = ap (λ o. h.replay.done ++ entry (length e.before) e.step e.work o ∷ []) both.line
        ∙ ap (λ ds. ds ++ entry (length e.before) e.step e.work (printed_line (stored c.store) e.found) ∷ []) (sym h.same) ∙ sym (ap (λ y. y.done) e.is);
  }
    where
      distinct : AreDistinct (ids (universe (first_bag deploy.rows v) c.done))
      distinct = fresh-rows deploy.rows v c.done f

      h : Holds deploy v ss c.done distinct c
      h = holds-now deploy v ss c f quiet es

      both : InBoth (stored c.store) h.replay.bag (done_steps h.replay.done) e.step e.found
      both = meets-too (stored c.store) h.replay.bag (done_steps h.replay.done) (done_steps h.replay.done) e.step e.found
          (store-distinct deploy.prices deploy.limit (first_bag deploy.rows v) ss c.done distinct h.replay c.store c.arriving c.tries h.going)
          (bag-distinct (first_bag deploy.rows v) ss c.done distinct h.replay h.going.kept)
          (λ z n i. store-there deploy.prices deploy.limit (first_bag deploy.rows v) ss c.done distinct h.replay c.store c.arriving c.tries h.going z i) refl
          (subst (λ ds. meeting (stored c.store) (done_steps ds) e.step ≡ Some e.found) h.same e.allowed)

      there : Meeting
      there = meeting_at (standing h.replay.bag) both.taken both.joined

  module _ (X : Type 0) (n : ℕ) (test : (q : Replay) → Replays deploy.prices deploy.limit (first_bag deploy.rows v) ss q → length q.done ≤ n → IsFresh deploy.rows v q.done ⊎ X)
      (quiet : (s : Step) → meeting (stored deploy.rows) [] s ≡ None) where
    tested : (ds : List DoneStep) → length ds ≤ n → Did ds → IsFresh deploy.rows v ds ⊎ X
    tested ds l d = go (test d.replay d.replays (subst (λ x. length x ≤ n) (sym d.same) l))
      where
        go : IsFresh deploy.rows v d.replay.done ⊎ X → IsFresh deploy.rows v ds ⊎ X
        go (inl f) = inl (subst (IsFresh deploy.rows v) d.same f)
        go (inr x) = inr x

    after-done : (c d : RacingState) → Races deploy v ss c → Finishes deploy.prices deploy.limit (first_bag deploy.rows v) ss c d → length d.done ≤ n → IsFresh deploy.rows v c.done ⊎ X → IsFresh deploy.rows v d.done ⊎ X
    after-done c d es e l (inl f) = tested d.done l (next-did quiet c d es f e)
    after-done c d es e l (inr x) = inr x

    fewer : (c d : RacingState) → Finishes deploy.prices deploy.limit (first_bag deploy.rows v) ss c d → length d.done ≤ n → length c.done ≤ n
    fewer c d e l = omega (arith, l, grown)
      where
        grown : length d.done ≡ suc (length c.done)
        grown = ap (λ y. length y.done) e.is ∙ one-longer c.done (entry (length e.before) e.step e.work (printed_line (stored c.store) e.found))

    pub along : (c : RacingState) → Races deploy v ss c → length c.done ≤ n → IsFresh deploy.rows v c.done ⊎ X
    along _ no_event l = tested [] l (record { replay = first_replay (first_bag deploy.rows v); replays = none_yet; same = refl })
    along d (arrival {c} es e) l = subst (λ y. IsFresh deploy.rows v y.done ⊎ X) (sym e.is) (along c es (subst (λ y. length y.done ≤ n) e.is l))
    along d (done_index {c} es e) l = after-done c d es e l (along c es (fewer c d e l))
    along d (idle_try {c} es e) l = subst (λ y. IsFresh deploy.rows v y.done ⊎ X) (sym e.is) (along c es (subst (λ y. length y.done ≤ n) e.is l))

pub races_are_fresh : RacesAreFresh
races_are_fresh deploy w ss k c f quiet es = go (along deploy w ss ⊥ (length c.done) (λ q h l. inl (replays_of_fresh_walks_are_fresh deploy w ss k q f h)) quiet c es (omega arith))
  where
    go : IsFresh deploy.rows w c.done ⊎ ⊥ → IsFresh deploy.rows w c.done
    go (inl h) = h
    go (inr x) = absurd x

pub races_are_fresh_or_clash : RacesAreFreshOrClash
races_are_fresh_or_clash deploy w ss c u quiet es fits differs = along deploy w ss (SomeClash deploy w ss) (length c.done) test quiet c es (omega arith)
  where
    test : (q : Replay) → Replays deploy.prices deploy.limit (first_bag deploy.rows w) ss q → length q.done ≤ length c.done → IsFresh deploy.rows w q.done ⊎ SomeClash deploy w ss
    test q h l = go (legal_lists_are_fresh_or_show_an_id deploy (done_steps q.done) small differs (state_of w q, leads))
      where
        small : FitsInTexts deploy (done_steps q.done)
        small = record { numberable = fits.numberable; steps_fit = omega (arith, l, made-length q.done, made-length c.done, fits.steps_fit); ids_fit = fits.ids_fit; source_fits = fits.source_fits }

        leads : Leads deploy (done_steps q.done) (state_of w q)
        leads = replays_are_legal deploy w ss q u h

        go : AreFresh deploy (done_steps q.done) ⊎ Clashes deploy w q → IsFresh deploy.rows w q.done ⊎ SomeClash deploy w ss
        go (inl a) = inl (a (done_steps q.done) [] (sym (append_nothing (done_steps q.done))) (state_of w q) leads)
        go (inr x) = inr (q, (h, x))
