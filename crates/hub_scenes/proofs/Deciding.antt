-- What a hub over the scene of a replay did decides the log, or digests clash.
use Rattle.std.proofs.Common.{◌≡◌, ◌<◌, ℕ, Bool, true, false, cond, List, [], ◌∷◌, ◌++◌, length, filter, map as each, IsPermutation, refl, sym, ap, subst, ◌∙◌, arith, inl, inr, eq-eqb, append_assoc, append-nil, Some}
use Rattle.std.specs.Prelude.{◌⊎◌, ◌↔◌, flat_map, slice_get, Option, None, IsSome, is_some}
use Rattle.calculus.specs.Log.{Step}
use Rattle.calculus.specs.Unfolding.{Unfolds}
use Rattle.calculus.specs.Steps.{Bag, Meeting, standing, differ, meeting, stored_rows}
use Rattle.calculus.specs.Runs.{Deploy, source_seed, Work}
use Rattle.calculus.proofs.States.{one_unfolding}
use Rattle.calculus.proofs.Permutations.{join, moved_so, moved-nothing, each-moved}
use Rattle.events.specs.Events.{stored, AreFresh}
use Rattle.events.proofs.Counts.{ids, AreDistinct}
use Rattle.events.proofs.Orders.{member-moved, times-moved}
use Rattle.events.proofs.EventStanding.{standing-times, no-more}
use Rattle.events.specs.EventLaws.{Begins}
use Rattle.events.specs.Premises.{FitsInTexts}
use Rattle.events.proofs.Concluding.{legal_lists_are_fresh_or_show_an_id}
use Rattle.hub_rule.specs.Counts.{one_if, count, things_of, Projected}
use Rattle.hub_rule.specs.Meaning.{store_after, Allowed, Ran}
use Rattle.replays.specs.Replays.{StopsAt}
use Rattle.racing_replays.specs.Replaying.{DoneStep, Replay, done_steps, in_order}
use Rattle.racing_replays.specs.Racing.{RacingState}
use Rattle.racing_replays.specs.Laws.{first_bag, state_of, IsFresh, FreshWalk, FullReplay, AreAllDone, IsFirstLeft, LeadsTo}
use Rattle.racing_replays.specs.Answering.{Clashes, SomeClash}
use Rattle.racing_replays.specs.RacingLaws.{RacesAs}
use Rattle.racing_replays.proofs.Legal.{replays_are_legal}
use Rattle.racing_replays.proofs.Premises.{fresh_replays_have_walks}
use Rattle.racing_replays.proofs.Racing.{races_are_replays}
use Rattle.racing_replays.proofs.Converse.{replays_decide}
use Rattle.racing_replays.proofs.Together.{meets-too}
use Rattle.events.specs.Shards.{stands_in, rows_in, IsProjection}
use Rattle.hub_scenes.specs.Spaces.{SeenRow, Job, Part, Space, bare, seen_in, steps_did}
use Rattle.hub_scenes.specs.Entries.{Deed, arrives, does, idles, Entry, space_after, did_in, did_by}
use Rattle.hub_scenes.specs.ReplayScene.{did_step, IsEvent, IsFreshSpace, Opens, IsProjected, replay}
use Rattle.hub_scenes.specs.Closing.{IsLegalLog, DecideLog}
use Rattle.hub_scenes.specs.ReplayLaws.{HubsDecideOrClash}
use Rattle.hub_scenes.proofs.Logs.{now, now_more, along}
use Rattle.hub_scenes.proofs.Early.{same-done}
use Rattle.hub_scenes.proofs.Fresh.{DoneBy, none-done, next-done, fresh-reached}
use Rattle.hub_scenes.proofs.Here.{steps-alike, once}
use Rattle.hub_scenes.proofs.Bounded.{made-length, few-done}
use Rattle.hub_scenes.proofs.Totals.{did-is, ordered, lines, total-is, verdict-is, cost-is}
use Rattle.hub_scenes.proofs.Lawful.{works-same}
use Rattle.hub_scenes.proofs.Steps.{arrivals_of, tries_of}
use Rattle.hub_scenes.proofs.Along.{Holding, holding}

no-rests : {A : Type 0} (ps : List (ℕ × A)) → things_of ps ≡ [] → ps ≡ []
no-rests [] e = refl
no-rests (q ∷ ps) e = cc

-- what has no number is empty
none-numbered : {A : Type 0} (ps : List (ℕ × A)) → ((i : ℕ) → count i ps ≡ 0) → ps ≡ []
none-numbered [] h = refl
none-numbered (q ∷ ps) h = absurd (omega (arith, h q.0, ap one_if (eq-eqb q.0 q.0 refl)))

bare-in : (k : ℕ) (qs : List SeenRow) → bare (filter (seen_in k) qs) ≡ rows_in k (bare qs)
bare-in k [] = refl
bare-in k (q ∷ qs) = go (stands_in k q.row) (bare-in k qs)
  where
    go : (b : Bool) → bare (filter (seen_in k) qs) ≡ rows_in k (bare qs) → bare (cond b (q ∷ filter (seen_in k) qs) (filter (seen_in k) qs)) ≡ cond b (q.row ∷ rows_in k (bare qs)) (rows_in k (bare qs))
    go true e = ap (λ l. q.row ∷ l) e
    go false e = e

some-some : (x y : Option Meeting) → ((m : Meeting) → x ≡ Some m → IsSome y) → IsSome x → IsSome y
some-some None y g e = absurd (no e)
  where
    no : false ≡ true → ⊥
    no e = cc e
some-some (Some m) y g e = g m refl

-- with the same rows in another order, no id of which stands twice, the same steps are allowed
allowed-alike : (b d : Bag) (made : List Step) → IsPermutation (stored_rows b) (stored_rows d) → AreDistinct (ids (standing b)) → (s : Step) → IsSome (meeting b made s) ↔ IsSome (meeting d made s)
allowed-alike b d made p once s = (
  some-some (meeting b made s) (meeting d made s) (λ m e. ap is_some (meets-too b d made made s m once other (λ z n i. no-more b d z (member-moved z p) i) refl e).allowed),
  some-some (meeting d made s) (meeting b made s) (λ m e. ap is_some (meets-too d b made made s m other once (λ z n i. no-more d b z (member-moved z (moved_so p)) i) refl e).allowed),
)
  where
    other : AreDistinct (ids (standing d))
    other x = omega (arith, once x, standing-times x b, standing-times x d, times-moved x p)

module _ (deploy : Deploy) (ss : List Step) where
  done-one : (st : Space) (touched : ℕ → Bool) (d : Deed) → (space_after st touched d).done ≡ st.done ++ did_in d
  done-one st touched (arrives a next) = sym (append-nil st.done)
  done-one st touched (does x m next) = refl
  done-one st touched (idles x) = sym (append-nil st.done)

  pub done-all : (es : List Entry) (st : Space) → (store_after (replay deploy ss) st es).done ≡ st.done ++ did_by es
  done-all [] st = sym (append-nil st.done)
  done-all (e ∷ es) st = done-all es (space_after st e.shards e.deed) ∙ ap (λ l. l ++ did_by es) (done-one st e.shards e.deed) ∙ append_assoc st.done (did_in e.deed) (did_by es)

  -- digests are fresh so far, or some clash
  module _ (fits : FitsInTexts deploy ss) (differs : differ (each (λ r. r.id) deploy.rows) ≡ true) where
    tested : (v : Work) (begins : Begins deploy v) (ds : List DoneStep) → DoneBy deploy v ss begins ds → AreFresh deploy (done_steps ds) ⊎ SomeClash deploy v ss
    tested v begins ds d = go (legal_lists_are_fresh_or_show_an_id deploy (done_steps d.replay.done) small differs (state_of v d.replay, replays_are_legal deploy v ss d.replay begins.unfolds d.replays))
      where
        small : FitsInTexts deploy (done_steps d.replay.done)
        small = record { numberable = fits.numberable; steps_fit = omega (arith, made-length d.replay.done, few-done deploy.prices deploy.limit (first_bag deploy.rows v) ss d.replay d.replays, fits.steps_fit); ids_fit = fits.ids_fit; source_fits = fits.source_fits }

        go : AreFresh deploy (done_steps d.replay.done) ⊎ Clashes deploy v d.replay → AreFresh deploy (done_steps ds) ⊎ SomeClash deploy v ss
        go (inl a) = inl (subst (λ es. AreFresh deploy (done_steps es)) d.same a)
        go (inr x) = inr (d.replay, (d.replays, x))

    fresh-next : (s : Space) (touched : ℕ → Bool) (d : Deed) → IsFreshSpace deploy ss s → IsEvent deploy ss s touched d → IsFreshSpace deploy ss (space_after s touched d) ⊎ SomeClash deploy s.work ss
    fresh-next s touched (arrives a next) fr i = inl fr
    fresh-next s touched (idles t) fr i = inl fr
    fresh-next s touched (does t m next) fr i = go (tested s.work i.reached.begins i.event.between.done (next-done deploy s.work ss i.reached.begins i.reached.racing i.event.between i.reached.races (fresh-reached deploy ss s i.reached fr) i.event.finishes))
      where
        same : steps_did (space_after s touched (does t m next)).done ≡ done_steps i.event.between.done
        same = ap steps_did i.is.done ∙ steps-alike deploy i.next.done ∙ ap done_steps (same-done (first_bag deploy.rows s.work) ss i.event.early i.event.between i.next i.event.ends)

        go : AreFresh deploy (done_steps i.event.between.done) ⊎ SomeClash deploy s.work ss → IsFreshSpace deploy ss (space_after s touched (does t m next)) ⊎ SomeClash deploy s.work ss
        go (inl a) = inl (subst (AreFresh deploy) (sym same) a)
        go (inr x) = inr x

    module _ (st : Space) (jobs : List Job) (h : Opens deploy ss st jobs) where
      work-now : (log : List (ℕ × Entry)) → (now (replay deploy ss) st jobs log).work ≡ h.work
      work-now log = works-same deploy ss (things_of log) st ∙ ap (λ s. s.work) h.is

      fresh-first : IsFreshSpace deploy ss st ⊎ SomeClash deploy h.work ss
      fresh-first = go (tested h.work h.begins [] (none-done deploy h.work ss h.begins))
        where
          go : AreFresh deploy [] ⊎ SomeClash deploy h.work ss → IsFreshSpace deploy ss st ⊎ SomeClash deploy h.work ss
          go (inl a) = inl (subst (λ s. IsFreshSpace deploy ss s) (sym h.is) a)
          go (inr x) = inr x

      pub fresh-or-clash : (log : List (ℕ × Entry)) → Allowed (replay deploy ss) st jobs log → IsFreshSpace deploy ss (now (replay deploy ss) st jobs log) ⊎ SomeClash deploy h.work ss
      fresh-or-clash log a = along (replay deploy ss) st jobs (λ l. IsFreshSpace deploy ss (now (replay deploy ss) st jobs l) ⊎ SomeClash deploy h.work ss) log a fresh-first
          (λ before later q e b may s. subst (λ x. IsFreshSpace deploy ss x ⊎ SomeClash deploy h.work ss) (sym (now_more (replay deploy ss) st jobs before q)) (next before q s may.1))
        where
          turned : (before : List (ℕ × Entry)) (x : Space) → IsFreshSpace deploy ss x ⊎ SomeClash deploy (now (replay deploy ss) st jobs before).work ss → IsFreshSpace deploy ss x ⊎ SomeClash deploy h.work ss
          turned before x (inl fr) = inl fr
          turned before x (inr c) = inr (subst (λ w. SomeClash deploy w ss) (work-now before) c)

          next : (before : List (ℕ × Entry)) (q : ℕ × Entry) → IsFreshSpace deploy ss (now (replay deploy ss) st jobs before) ⊎ SomeClash deploy h.work ss
              → (IsFreshSpace deploy ss (now (replay deploy ss) st jobs before) → IsEvent deploy ss (now (replay deploy ss) st jobs before) q.1.shards q.1.deed)
              → IsFreshSpace deploy ss (space_after (now (replay deploy ss) st jobs before) q.1.shards q.1.deed) ⊎ SomeClash deploy h.work ss
          next before q (inr c) may = inr c
          next before q (inl fr) may = turned before (space_after (now (replay deploy ss) st jobs before) q.1.shards q.1.deed) (fresh-next (now (replay deploy ss) st jobs before) q.1.shards q.1.deed fr (may fr))

  -- a space that is reached, where nothing is to arrive or to be tried and the digests are fresh
  module _ (st : Space) (jobs : List Job) (h : Opens deploy ss st jobs) (log : List (ℕ × Entry)) (s : Space) (held : Holding deploy ss st jobs h s log) (fr : IsFreshSpace deploy ss s) (rest : held.reached.racing.arriving ≡ []) (over : held.reached.racing.tries ≡ []) where
    abbrev c : RacingState
    c = held.reached.racing

    f : IsFresh deploy.rows s.work c.done
    f = fresh-reached deploy ss s held.reached fr

    so : (x : RacesAs deploy s.work ss c) × (c.arriving ≡ [] → c.tries ≡ [] → FullReplay deploy s.work ss x.replay)
    so = races_are_replays deploy s.work ss c f held.reached.begins.quiet held.reached.races

    abbrev r : Replay
    r = so.0.replay

    full : FullReplay deploy s.work ss r
    full = so.1 rest over

    walk : (k : Replay) × FreshWalk deploy s.work ss k
    walk = fresh_replays_have_walks deploy s.work ss r full (subst (IsFresh deploy.rows s.work) (sym so.0.same_done) f)

    decides : (AreAllDone ss r → LeadsTo deploy s.work ss r) × ((i : ℕ) → i < length ss → IsFirstLeft i r → StopsAt deploy ss i)
    decides = replays_decide deploy s.work ss walk.0 r held.reached.begins.unfolds walk.1 full

    did-all : s.done ≡ each (did_step deploy) r.done
    did-all = held.reached.is.done ∙ ap (each (did_step deploy)) (sym so.0.same_done)

    rows-are : IsPermutation (stored_rows r.bag) c.store
    rows-are = subst (λ l. IsPermutation (stored_rows r.bag) l) (ap (λ l. c.store ++ l) rest ∙ append-nil c.store) so.0.same_rows

    same-rows : (l : LeadsTo deploy s.work ss r) → IsPermutation (stored_rows l.state.bag) c.store
    same-rows l = join (moved_so l.comes.same_rows) rows-are

    once-here : AreDistinct (ids (standing (stored c.store)))
    once-here = once deploy ss s held.reached f

    store-is : stored_rows (stored c.store) ≡ c.store
    store-is = append-nil c.store

    legal : LeadsTo deploy s.work ss r → IsLegalLog deploy s.work ss (each (did_step deploy) (in_order (length ss) r.done)) c.store
    legal l = record {
      state = l.state;
      leads = l.leads;
      made = l.steps;
      rows_are = same-rows l;
      allowed = λ u. subst (λ us. IsSome (meeting (stored c.store) us u) ↔ IsSome (meeting l.state.bag l.state.made u)) l.steps
          (allowed-alike (stored c.store) l.state.bag l.state.made (moved_so (subst (λ rs. IsPermutation (stored_rows l.state.bag) rs) (sym store-is) (same-rows l))) once-here u);
      output = sym l.comes.output ∙ lines deploy (in_order (length ss) r.done);
      total_is = sym l.comes.same_total ∙ total-is deploy s.work r.bag (in_order (length ss) r.done);
      verdict_is = sym l.comes.outcome.verdict ∙ verdict-is deploy s.work r.bag (in_order (length ss) r.done);
      cost_is = sym l.comes.outcome.cost ∙ cost-is deploy s.work r.bag (in_order (length ss) r.done);
    }

    pub decided : (closed : List Part) → ((k : ℕ) (x : Part) → slice_get closed k ≡ Some x → IsProjection c.store k (bare x.rows)) → DecideLog deploy s.work ss s.done closed
    decided closed parts = subst (λ ds. DecideLog deploy s.work ss ds closed) (sym did-all) (record {
      store = c.store;
      shards = parts;
      legal = λ all. subst (λ ds. IsLegalLog deploy s.work ss ds c.store) (sym (ordered deploy (length ss) r.done)) (legal (decides.0 (λ i l. sym (did-is deploy i r.done) ∙ all i l)));
      stops = λ i l first. decides.1 i l (record { left = sym (did-is deploy i r.done) ∙ first.undone; least = λ j m. sym (did-is deploy j r.done) ∙ first.least j m });
    })

  module _ (w : Work) (opened : List Part) (jobs : List Job) (entries : List Entry) (closed : List Part) (left : List Job) (hands : List (ℕ × Job))
      (unfolds : Unfolds deploy.prices deploy.limit deploy.process (source_seed deploy) w) (ran : Ran (replay deploy ss) opened jobs entries closed left hands) (none-left : left ≡ []) (none-held : hands ≡ []) where
    abbrev opens : Opens deploy ss ran.store jobs
    opens = ran.starts.1

    abbrev last : Space
    last = now (replay deploy ss) ran.store jobs ran.log

    same-work : opens.work ≡ w
    same-work = one_unfolding deploy.prices deploy.limit deploy.process (source_seed deploy) opens.work w opens.begins.unfolds unfolds

    last-work : (now (replay deploy ss) ran.store jobs ran.log).work ≡ w
    last-work = works-same deploy ss (things_of ran.log) ran.store ∙ ap (λ s. s.work) opens.is ∙ same-work

    last-done : (now (replay deploy ss) ran.store jobs ran.log).done ≡ did_by entries
    last-done = done-all (things_of ran.log) ran.store ∙ ap (λ s. s.done ++ did_by (things_of ran.log)) opens.is ∙ ap did_by ran.same

    closes : Projected (IsProjected deploy ss) (now (replay deploy ss) ran.store jobs ran.log) closed
    closes = subst (λ es. Projected (IsProjected deploy ss) (store_after (replay deploy ss) ran.store es) closed) (sym ran.same) ran.closes

    nothing : (held : Holding deploy ss ran.store jobs opens last ran.log) → held.pending ≡ []
    nothing held = none-numbered held.pending (λ i. omega (arith, held.are.1 i, ran.pending.1 i, ap (count i) no-more))
      where
        no-more : ran.rests ++ hands ≡ []
        no-more = ap (λ l. l ++ hands) (no-rests ran.rests (ran.lies ∙ none-left)) ∙ none-held

    done-with : IsFreshSpace deploy ss last → DecideLog deploy last.work ss last.done closed
    done-with fr = decided ran.store jobs opens ran.log last held fr rest over closed (λ k x e. subst (λ l. IsPermutation l (bare x.rows)) (bare-in k last.store ∙ ap (rows_in k) held.reached.is.store) (each-moved (λ (q : SeenRow). q.row) (closes k x e fr).rows))
      where
        held : Holding deploy ss ran.store jobs opens last ran.log
        held = holding deploy ss ran.store jobs opens ran.log ran.allowed fr

        rest : held.reached.racing.arriving ≡ []
        rest = sym held.reached.is.arriving ∙ ap (each (λ x. x.row)) (moved-nothing (moved_so held.arrivals) (ap (λ ps. flat_map arrivals_of (things_of ps)) (nothing held)))

        over : held.reached.racing.tries ≡ []
        over = sym held.reached.is.tries ∙ moved-nothing (moved_so held.trying) (ap (λ ps. flat_map tries_of (things_of ps)) (nothing held))

    pub decided-or-clash : FitsInTexts deploy ss → differ (each (λ r. r.id) deploy.rows) ≡ true → DecideLog deploy w ss (did_by entries) closed ⊎ SomeClash deploy w ss
    decided-or-clash fits differs = go (fresh-or-clash fits differs ran.store jobs opens ran.log ran.allowed)
      where
        go : IsFreshSpace deploy ss last ⊎ SomeClash deploy opens.work ss → DecideLog deploy w ss (did_by entries) closed ⊎ SomeClash deploy w ss
        go (inl fr) = inl (subst (λ v. DecideLog deploy v ss (did_by entries) closed) last-work (subst (λ ds. DecideLog deploy last.work ss ds closed) last-done (done-with fr)))
        go (inr c) = inr (subst (λ v. SomeClash deploy v ss) same-work c)

pub hubs_decide_or_clash : HubsDecideOrClash
hubs_decide_or_clash deploy ss w opened jobs entries closed left hands unfolds fits differs ran none-left none-held = decided-or-clash deploy ss w opened jobs entries closed left hands unfolds ran none-left none-held fits differs
