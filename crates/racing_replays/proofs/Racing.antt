-- The events of a replay by workers are a replay.
use Rattle.std.proofs.Common.{◌≡◌, true, List, [], ◌∷◌, ◌++◌, length, refl, ap, sym, ◌∙◌, subst, inl}
use Rattle.std.specs.Prelude.{Option, Some, None}
use Rattle.calculus.specs.Log.{Step}
use Rattle.calculus.specs.Rows.{Row}
use Rattle.calculus.specs.Unfolding.{rows_of}
use Rattle.calculus.specs.Steps.{Meeting, standing, meeting, printed_line}
use Rattle.calculus.specs.Runs.{Deploy, Work, work_products}
use Rattle.calculus.proofs.Members.{Member, member-left, member-right}
use Rattle.events.specs.Events.{stored}
use Rattle.events.proofs.Counts.{ids, AreDistinct}
use Rattle.events.proofs.EventFollowing.{append_nothing}
use Rattle.racing_replays.specs.Replaying.{DoneStep, Replay, first_replay, done_steps, is_due}
use Rattle.racing_replays.specs.Racing.{RacingState, Arrives, Finishes, Idles, Races, no_event, arrival, done_index, idle_try}
use Rattle.racing_replays.specs.Laws.{first_bag, IsFresh, FullReplay}
use Rattle.racing_replays.specs.RacingLaws.{RacesAreReplays}
use Rattle.racing_replays.proofs.Keeping.{universe}
use Rattle.racing_replays.proofs.Transfer.{bag-distinct}
use Rattle.racing_replays.proofs.Doing.{entry}
use Rattle.racing_replays.proofs.Agreeing.{fresh-rows}
use Rattle.racing_replays.proofs.Together.{InBoth, meets-too}
use Rattle.racing_replays.proofs.Going.{Going, all-there, store-distinct}
use Rattle.racing_replays.proofs.Arriving.{going-first, going-idle, going-arrival}
use Rattle.racing_replays.proofs.Finishing.{going-finish, same-printed}

module _ (deploy : Deploy) (v : Work) (ss : List Step) (ds : List DoneStep) (fresh : AreDistinct (ids (universe (first_bag deploy.rows v) ds))) where
  -- what holds of a state
  pub record Holds (c : RacingState) : Type 0 where
    pub replay : Replay
    pub same : c.done ≡ replay.done
    pub going : Going deploy.prices deploy.limit (first_bag deploy.rows v) ss ds fresh replay c.store c.arriving c.tries

  holds-arrival : (c d : RacingState) → Holds c → Arrives ss c d → Holds d
  holds-arrival c d h e = subst Holds (sym e.is)
      (record { replay = h.replay; same = h.same; going = going-arrival deploy.prices deploy.limit (first_bag deploy.rows v) ss ds fresh h.replay c.store c.arriving c.tries h.going e.row e.before e.after e.arriving })

  holds-idle : (c d : RacingState) → Holds c → Idles (first_bag deploy.rows v) ss c d → Holds d
  holds-idle c d h e = subst Holds (sym e.is) (record {
    replay = h.replay;
    same = h.same;
    going = going-idle deploy.prices deploy.limit (first_bag deploy.rows v) ss ds fresh h.replay c.store c.arriving c.tries h.going e.pre e.index e.post e.tries (λ before s after log i due.
        subst (λ ds. meeting (stored c.store) (done_steps ds) s ≡ None) h.same (e.may_not before s after log i (subst (λ ds. is_due (first_bag deploy.rows v) ds before s ≡ true) (sym h.same) due)));
  })

  holds-finish : (c d : RacingState) → Holds c → (e : Finishes deploy.prices deploy.limit (first_bag deploy.rows v) ss c d) → Member (entry (length e.before) e.step e.work (printed_line (stored c.store) e.found)) ds → Holds d
  holds-finish c d h e n = subst Holds (sym e.is) (record {
    replay = _;
    same = ap (λ ds. ds ++ entry (length e.before) e.step e.work (printed_line (stored c.store) e.found) ∷ []) h.same ∙ ap (λ o. h.replay.done ++ entry (length e.before) e.step e.work o ∷ []) (same-printed deploy.prices deploy.limit (first_bag deploy.rows v) ss ds fresh h.replay c.store c.arriving c.tries h.going e.before e.step e.after e.log (subst (λ ds. is_due (first_bag deploy.rows v) ds e.before e.step ≡ true) h.same e.due) e.found (subst (λ ds. meeting (stored c.store) (done_steps ds) e.step ≡ Some e.found) h.same e.allowed) e.room e.work e.works n);
    going = going-finish deploy.prices deploy.limit (first_bag deploy.rows v) ss ds fresh h.replay c.store c.arriving c.tries h.going e.before e.step e.after e.log
        (subst (λ ds. is_due (first_bag deploy.rows v) ds e.before e.step ≡ true) h.same e.due) e.found (subst (λ ds. meeting (stored c.store) (done_steps ds) e.step ≡ Some e.found) h.same e.allowed) e.room e.work e.works n e.pre e.post e.tries;
  })

  pub holds : ((s : Step) → meeting (stored deploy.rows) [] s ≡ None) → (c : RacingState) → Races deploy v ss c → ((d : DoneStep) → Member d c.done → Member d ds) → Holds c
  holds quiet _ no_event sub =
      record { replay = first_replay (first_bag deploy.rows v); same = refl; going = going-first deploy.prices deploy.limit (first_bag deploy.rows v) ss ds fresh deploy.rows (rows_of (work_products v)) refl quiet }
  holds quiet d (arrival {c} es e) sub = holds-arrival c d (holds quiet c es (λ x m. sub x (subst (λ y. Member x y.done) (sym e.is) m))) e
  holds quiet d (done_index {c} es e) sub =
      holds-finish c d (holds quiet c es (λ x m. sub x (subst (λ y. Member x y.done) (sym e.is) (member-left x c.done _ m)))) e
      (sub _ (subst (λ y. Member (entry (length e.before) e.step e.work (printed_line (stored c.store) e.found)) y.done) (sym e.is) (member-right _ c.done _ (inl refl))))
  holds quiet d (idle_try {c} es e) sub = holds-idle c d (holds quiet c es (λ x m. sub x (subst (λ y. Member x y.done) (sym e.is) m))) e

  -- nothing may be done once nothing is to arrive or to be tried
  pub at-rest : (c : RacingState) (h : Holds c) → c.arriving ≡ [] → c.tries ≡ [] → FullReplay deploy v ss h.replay
  at-rest c h a t = record { replays = h.going.replays; maximal = λ before s after log due. go before s after log due (meeting h.replay.bag (done_steps h.replay.done) s) refl }
    where
      there : (z : Row) → Member z (standing h.replay.bag) → Member z (standing (stored c.store))
      there z m = subst (λ l. Member z (standing (stored l))) (ap (λ l. c.store ++ l) a ∙ append_nothing c.store) (all-there deploy.prices deploy.limit (first_bag deploy.rows v) ss ds fresh h.replay c.store c.arriving c.tries h.going z m)

      go : (before : List Step) (s : Step) (after : List Step) → ss ≡ before ++ s ∷ after → is_due (first_bag deploy.rows v) h.replay.done before s ≡ true
          → (o : Option Meeting) → meeting h.replay.bag (done_steps h.replay.done) s ≡ o → o ≡ None
      go before s after log due None e = refl
      go before s after log due (Some m) e =
          let both : InBoth h.replay.bag (stored c.store) (done_steps h.replay.done) s m =
          meets-too h.replay.bag (stored c.store) (done_steps h.replay.done) (done_steps h.replay.done) s m (bag-distinct (first_bag deploy.rows v) ss ds fresh h.replay h.going.kept)
          (store-distinct deploy.prices deploy.limit (first_bag deploy.rows v) ss ds fresh h.replay c.store c.arriving c.tries h.going) (λ z n i. there z i) refl e in
          absurd (subst (λ l. Member (length before) l) t (h.going.pending before s after log due _ both.allowed))

-- what holds of a state of which the digests are fresh
pub holds-now : (deploy : Deploy) (v : Work) (ss : List Step) (c : RacingState) (f : IsFresh deploy.rows v c.done) → ((s : Step) → meeting (stored deploy.rows) [] s ≡ None) → Races deploy v ss c
    → Holds deploy v ss c.done (fresh-rows deploy.rows v c.done f) c
holds-now deploy v ss c f quiet es = holds deploy v ss c.done (fresh-rows deploy.rows v c.done f) quiet c es (λ d m. m)

pub races_are_replays : RacesAreReplays
races_are_replays deploy v ss c f quiet es =
    let h = holds-now deploy v ss c f quiet es in
    (record { replay = h.replay; replays = h.going.replays; same_done = sym h.same; same_rows = h.going.rows }, (λ a t. at-rest deploy v ss c.done (fresh-rows deploy.rows v c.done f) c h a t))
