-- Digests that are fresh so far.
use Rattle.std.proofs.Common.{◌≡◌, true, List, [], ◌∷◌, ◌++◌, length, map as each, refl, ap, sym, ◌∙◌, subst, append_assoc}
use Rattle.std.specs.Prelude.{Some}
use Rattle.calculus.specs.Log.{Step}
use Rattle.calculus.specs.Steps.{Meeting, standing, meeting, printed_line}
use Rattle.calculus.specs.Runs.{Deploy, Work, body_work, Leads}
use Rattle.events.specs.Events.{stored, AreFresh}
use Rattle.events.specs.EventLaws.{Begins}
use Rattle.events.proofs.Counts.{ids, AreDistinct}
use Rattle.events.proofs.Meetings.{meeting_at}
use Rattle.events.proofs.EventFollowing.{append_nothing}
use Rattle.racing_replays.specs.Replaying.{DoneStep, Replay, first_replay, done_steps, is_due, after_step, Replays, none_yet, one_more}
use Rattle.racing_replays.specs.Racing.{RacingState, Finishes, Races, no_event, arrival, done_index, idle_try}
use Rattle.racing_replays.specs.Laws.{first_bag, state_of, IsFresh}
use Rattle.racing_replays.proofs.Keeping.{universe}
use Rattle.racing_replays.proofs.Transfer.{bag-distinct}
use Rattle.racing_replays.proofs.Doing.{entry}
use Rattle.racing_replays.proofs.Agreeing.{fresh-rows}
use Rattle.racing_replays.proofs.Legal.{replays_are_legal}
use Rattle.racing_replays.proofs.Together.{InBoth, meets-too}
use Rattle.racing_replays.proofs.Going.{store-distinct, store-there}
use Rattle.racing_replays.proofs.Racing.{Holds, holds-now}
use Rattle.hub_scenes.specs.Spaces.{Space}
use Rattle.hub_scenes.specs.ReplayScene.{IsReached, IsFreshSpace}
use Rattle.hub_scenes.proofs.Basics.{each-both, each-twice}

-- fewer steps are fresh too
pub fewer-fresh : (deploy : Deploy) (xs ys : List Step) → AreFresh deploy (xs ++ ys) → AreFresh deploy xs
fewer-fresh deploy xs ys h first rest e a l = h first (rest ++ ys) (ap (λ us. us ++ ys) e ∙ append_assoc first rest ys) a l

module _ (deploy : Deploy) (v : Work) (ss : List Step) (begins : Begins deploy v) where
  -- a replay that did this
  pub record DoneBy (ds : List DoneStep) : Type 0 where
    pub replay : Replay
    pub replays : Replays deploy.prices deploy.limit (first_bag deploy.rows v) ss replay
    pub same : replay.done ≡ ds

  pub none-done : DoneBy []
  none-done = record { replay = first_replay (first_bag deploy.rows v); replays = none_yet; same = refl }

  -- the next step is one of a replay
  pub next-done : (c d : RacingState) → Races deploy v ss c → IsFresh deploy.rows v c.done → Finishes deploy.prices deploy.limit (first_bag deploy.rows v) ss c d → DoneBy d.done
  next-done c d es f e = record {
    replay = after_step h.replay (length e.before) e.step there e.work;
    replays = one_more h.going.replays (record {
      before = e.before;
      step = e.step;
      after = e.after;
      log = e.log;
      due = subst (λ ds. is_due (first_bag deploy.rows v) ds e.before e.step ≡ true) h.same e.due;
      found = there;
      allowed = both.allowed;
      room = e.room;
      work = e.work;
      works = subst (λ x. body_work deploy.prices deploy.limit e.room e.step x ≡ Some e.work) both.is e.works;
      is = refl;
    });
    same = ap (λ o. h.replay.done ++ entry (length e.before) e.step e.work o ∷ []) both.line
        ∙ ap (λ ds. ds ++ entry (length e.before) e.step e.work (printed_line (stored c.store) e.found) ∷ []) (sym h.same) ∙ sym (ap (λ y. y.done) e.is);
  }
    where
      distinct : AreDistinct (ids (universe (first_bag deploy.rows v) c.done))
      distinct = fresh-rows deploy.rows v c.done f

      h : Holds deploy v ss c.done distinct c
      h = holds-now deploy v ss c f begins.quiet es

      both : InBoth (stored c.store) h.replay.bag (done_steps h.replay.done) e.step e.found
      both = meets-too (stored c.store) h.replay.bag (done_steps h.replay.done) (done_steps h.replay.done) e.step e.found
          (store-distinct deploy.prices deploy.limit (first_bag deploy.rows v) ss c.done distinct h.replay c.store c.arriving c.tries h.going)
          (bag-distinct (first_bag deploy.rows v) ss c.done distinct h.replay h.going.kept)
          (λ z n i. store-there deploy.prices deploy.limit (first_bag deploy.rows v) ss c.done distinct h.replay c.store c.arriving c.tries h.going z i) refl
          (subst (λ ds. meeting (stored c.store) (done_steps ds) e.step ≡ Some e.found) h.same e.allowed)

      there : Meeting
      there = meeting_at (standing h.replay.bag) both.taken both.joined

  pub legal-done : (ds : List DoneStep) (d : DoneBy ds) → Leads deploy (done_steps ds) (state_of v d.replay)
  legal-done ds d = subst (λ es. Leads deploy (done_steps es) (state_of v d.replay)) d.same (replays_are_legal deploy v ss d.replay begins.unfolds d.replays)

  -- steps of a replay that are fresh as a list of steps
  pub fresh-done : (ds : List DoneStep) → DoneBy ds → AreFresh deploy (done_steps ds) → IsFresh deploy.rows v ds
  fresh-done ds d a = subst (IsFresh deploy.rows v) d.same (a (done_steps ds) [] (sym (append_nothing (done_steps ds))) (state_of v d.replay) (legal-done ds d))

  done-more : (c d : RacingState) → Finishes deploy.prices deploy.limit (first_bag deploy.rows v) ss c d → AreFresh deploy (done_steps d.done) → AreFresh deploy (done_steps c.done)
  done-more c d e a = fewer-fresh deploy (done_steps c.done) (e.step ∷ []) (subst (AreFresh deploy)
      (ap (λ y. done_steps y.done) e.is ∙ each-both (λ x. x.step) c.done (entry (length e.before) e.step e.work (printed_line (stored c.store) e.found) ∷ [])) a)

  -- what events did is fresh where its steps are
  pub fresh-so : (c : RacingState) → Races deploy v ss c → AreFresh deploy (done_steps c.done) → IsFresh deploy.rows v c.done
  fresh-so _ no_event a = fresh-done [] none-done a
  fresh-so d (arrival {c} es e) a = subst (λ y. IsFresh deploy.rows v y.done) (sym e.is) (fresh-so c es (subst (λ y. AreFresh deploy (done_steps y.done)) e.is a))
  fresh-so d (done_index {c} es e) a = fresh-done d.done (next-done c d es (fresh-so c es (done-more c d e a)) e) a
  fresh-so d (idle_try {c} es e) a = subst (λ y. IsFresh deploy.rows v y.done) (sym e.is) (fresh-so c es (subst (λ y. AreFresh deploy (done_steps y.done)) e.is a))

-- what a space that is reached has done is fresh where the space is
pub fresh-reached : (deploy : Deploy) (ss : List Step) (st : Space) (r : IsReached deploy ss st) → IsFreshSpace deploy ss st → IsFresh deploy.rows st.work r.racing.done
fresh-reached deploy ss st r a = fresh-so deploy st.work ss r.begins r.racing r.races (subst (AreFresh deploy) (ap (λ l. each (λ d. d.step) l) r.is.done ∙ each-twice (λ d. d.step) _ (λ d. d.step) (λ d. refl) r.racing.done) a)
