-- What a space that events led to is like, under fresh digests.
use Rattle.std.proofs.Common.{◌≡◌, ℕ, ◌≤◌, true, false, List, [], ◌∷◌, ◌++◌, length, map as each, refl, sym, ap, subst, ◌∙◌, arith, inl, inr}
use Rattle.std.specs.Prelude.{◌↔◌, Option, Some, None, count_by}
use Rattle.calculus.specs.Log.{Step}
use Rattle.calculus.specs.Rows.{Row}
use Rattle.calculus.specs.Steps.{standing}
use Rattle.calculus.specs.Runs.{Deploy}
use Rattle.calculus.proofs.Members.{Member, member-left, member-right}
use Rattle.events.specs.Events.{stored}
use Rattle.events.proofs.Counts.{ids, times, AreDistinct, member-times, times-one_of, one_of-times}
use Rattle.events.proofs.EventStanding.{ids-times}
use Rattle.racing_replays.specs.Replaying.{DoneStep, done_steps, rows_by, is_done, names, all_done}
use Rattle.racing_replays.specs.Laws.{first_bag, IsFresh}
use Rattle.racing_replays.specs.Counted.{names_id}
use Rattle.racing_replays.proofs.Due.{GivenBy}
use Rattle.racing_replays.proofs.Keeping.{offers, universe, one-row}
use Rattle.racing_replays.proofs.Transfer.{member-flat, in-universe, up-universe}
use Rattle.racing_replays.proofs.Agreeing.{fresh-rows}
use Rattle.racing_replays.proofs.Going.{store-distinct, store-there, all-counts}
use Rattle.racing_replays.proofs.Turns.{uses_are_counted}
use Rattle.racing_replays.proofs.Racing.{Holds, holds-now}
use Rattle.hub_scenes.specs.Spaces.{Space, bare, steps_did}
use Rattle.hub_scenes.specs.Showing.{IsLower}
use Rattle.hub_scenes.specs.ReplayScene.{did_step, IsReached}
use Rattle.hub_scenes.proofs.Basics.{each-both, each-twice, image-of}
use Rattle.hub_scenes.proofs.Good.{OfferedIn, ComesBy}

offered-in : (x : List ℕ) (ds : List DoneStep) (d : DoneStep) → Member d ds → times x (ids (rows_by d)) ≤ times x (ids (offers ds))
offered-in x [] d m = absurd m
offered-in x (e ∷ ds) d (inl s) = omega (arith, ids-times x (rows_by e) (offers ds), ap (λ y. times x (ids (rows_by y))) s)
offered-in x (e ∷ ds) d (inr m) = omega (arith, ids-times x (rows_by e) (offers ds), offered-in x ds d m)

-- where an id is offered once, one done step offers it
one-offerer : (x : List ℕ) (ds : List DoneStep) → times x (ids (offers ds)) ≤ 1 → (d e : DoneStep) → Member d ds → Member e ds → 1 ≤ times x (ids (rows_by d)) → 1 ≤ times x (ids (rows_by e)) → d ≡ e
one-offerer x [] h d e m n i j = absurd m
one-offerer x (y ∷ ds) h d e (inl s) (inl v) i j = s ∙ sym v
one-offerer x (y ∷ ds) h d e (inl s) (inr n) i j = absurd (omega (arith, h, ids-times x (rows_by y) (offers ds), ap (λ z. times x (ids (rows_by z))) s, i, j, offered-in x ds e n))
one-offerer x (y ∷ ds) h d e (inr m) (inl v) i j = absurd (omega (arith, h, ids-times x (rows_by y) (offers ds), ap (λ z. times x (ids (rows_by z))) v, i, j, offered-in x ds d m))
one-offerer x (y ∷ ds) h d e (inr m) (inr n) i j = one-offerer x ds (omega (arith, h, ids-times x (rows_by y) (offers ds))) d e m n i j

pub steps-alike : (deploy : Deploy) (ds : List DoneStep) → steps_did (each (did_step deploy) ds) ≡ done_steps ds
steps-alike deploy ds = each-twice (λ d. d.step) (did_step deploy) (λ d. d.step) (λ d. refl) ds

module _ (deploy : Deploy) (ss : List Step) (st : Space) (r : IsReached deploy ss st) (f : IsFresh deploy.rows st.work r.racing.done) where
  abbrev pub unique : AreDistinct (ids (universe (first_bag deploy.rows st.work) r.racing.done))
  unique = fresh-rows deploy.rows st.work r.racing.done f

  pub held : Holds deploy st.work ss r.racing.done unique r.racing
  held = holds-now deploy st.work ss r.racing f r.begins.quiet r.races

  pub once : AreDistinct (ids (standing (stored r.racing.store)))
  once = store-distinct deploy.prices deploy.limit (first_bag deploy.rows st.work) ss r.racing.done unique held.replay r.racing.store r.racing.arriving r.racing.tries held.going

  -- no id stands twice among the rows that are to arrive
  pub arriving-once : (x : List ℕ) → times x (ids r.racing.arriving) ≤ 1
  arriving-once x = omega (arith, all-counts deploy.prices deploy.limit (first_bag deploy.rows st.work) ss r.racing.done unique held.replay r.racing.store r.racing.arriving r.racing.tries held.going x)

  pub steps-same : steps_did st.done ≡ done_steps r.racing.done
  steps-same = ap steps_did r.is.done ∙ steps-alike deploy r.racing.done

  -- it is a step's turn where each of its rows was used as often as before it in the log
  pub turns : (before : List Step) (s : Step) (after : List Step) → ss ≡ before ++ s ∷ after
      → (is_done (length before) r.racing.done ≡ false × all_done r.racing.done (names s) 0 before ≡ true) ↔ ((x : List ℕ) → names_id x s ≡ true → count_by (names_id x) (steps_did st.done) ≡ count_by (names_id x) before)
  turns before s after log =
      subst (λ us. (is_done (length before) r.racing.done ≡ false × all_done r.racing.done (names s) 0 before ≡ true) ↔ ((x : List ℕ) → names_id x s ≡ true → count_by (names_id x) us ≡ count_by (names_id x) before)) (sym steps-same)
      (subst (λ ds. (is_done (length before) ds ≡ false × all_done ds (names s) 0 before ≡ true) ↔ ((x : List ℕ) → names_id x s ≡ true → count_by (names_id x) (done_steps ds) ≡ count_by (names_id x) before)) (sym held.same)
      (uses_are_counted deploy st.work ss held.replay (subst (IsFresh deploy.rows st.work) held.same f) held.going.replays before s after log))

  -- the rows seen, with the built-in receivers, are those that stand
  pub rows-here : bare (st.store ++ st.built) ≡ standing (stored r.racing.store)
  rows-here = each-both (λ q. q.row) st.store st.built ∙ ap (λ l. l ++ bare st.built) r.is.store ∙ ap (λ l. r.racing.store ++ l) r.is.built

  pub all-in : (z : Row) → Member z (standing (stored r.racing.store)) → Member z (universe (first_bag deploy.rows st.work) r.racing.done)
  all-in z m = up-universe (first_bag deploy.rows st.work) ss r.racing.done unique held.replay.done held.going.kept.sub z (in-universe (first_bag deploy.rows st.work) ss r.racing.done unique held.replay held.going.kept z
      (store-there deploy.prices deploy.limit (first_bag deploy.rows st.work) ss r.racing.done unique held.replay r.racing.store r.racing.arriving r.racing.tries held.going z m))

  -- the done step that offered a row
  pub record Offerer (z : Row) (i : ℕ) : Type 0 where
    pub done : DoneStep
    pub there : Member done r.racing.done
    pub index : done.index ≡ i
    pub row : Member z (rows_by done)

  pub offerer : (z : Row) (i : ℕ) → OfferedIn st.done z i → Offerer z i
  offerer z i o =
      let d = image-of (did_step deploy) o.did r.racing.done (subst (λ l. Member o.did l) r.is.done o.there) in
      record { done = d.0; there = d.1.0; index = sym (ap (λ y. y.index) d.1.1) ∙ o.index; row = subst (λ y. Member z y.offers) d.1.1 o.row }

  pub comes-in : (z : Row) (from : Option ℕ) → ComesBy (first_bag deploy.rows st.work) st.done z from → Member z (universe (first_bag deploy.rows st.work) r.racing.done)
  comes-in z None h = member-left z (standing (first_bag deploy.rows st.work)) (offers r.racing.done) h
  comes-in z (Some i) h = let o = offerer z i h in member-right z (standing (first_bag deploy.rows st.work)) (offers r.racing.done) (member-flat z r.racing.done o.done o.there o.row)

  -- rows with one id are one
  pub same-row : (z y : Row) → Member z (universe (first_bag deploy.rows st.work) r.racing.done) → Member y (universe (first_bag deploy.rows st.work) r.racing.done) → z.id ≡ y.id → z ≡ y
  same-row z y m n e = one-row (universe (first_bag deploy.rows st.work) r.racing.done) unique z y m n e

  -- a row from below is given below
  pub given-lower : (z : Row) (from : Option ℕ) (i : ℕ) → ComesBy (first_bag deploy.rows st.work) st.done z from → IsLower from i → GivenBy (first_bag deploy.rows st.work) i r.racing.done z.id
  given-lower z None i h l = inl (times-one_of z.id (ids (standing (first_bag deploy.rows st.work))) (member-times z (standing (first_bag deploy.rows st.work)) h))
  given-lower z (Some j) i h l =
      let o = offerer z j h in
      inr (o.done, (o.there, (omega (arith, l, o.index), times-one_of z.id (ids (rows_by o.done)) (member-times z (rows_by o.done) o.row))))

  -- and back
  pub lower-given : (z : Row) (from : Option ℕ) (i : ℕ) → ComesBy (first_bag deploy.rows st.work) st.done z from → GivenBy (first_bag deploy.rows st.work) i r.racing.done z.id → IsLower from i
  lower-given z None i h l = tt
  lower-given z (Some j) i h (inl e) =
      let o = offerer z j h in
      absurd (omega (
        arith,
        unique z.id,
        ids-times z.id (standing (first_bag deploy.rows st.work)) (offers r.racing.done),
        one_of-times z.id (ids (standing (first_bag deploy.rows st.work))) e,
        member-times z (rows_by o.done) o.row,
        offered-in z.id r.racing.done o.done o.there,
      ))
  lower-given z (Some j) i h (inr d) =
      let o = offerer z j h in
      let same : o.done ≡ d.0 = one-offerer z.id r.racing.done (omega (arith, unique z.id, ids-times z.id (standing (first_bag deploy.rows st.work)) (offers r.racing.done))) o.done d.0 o.there d.1.0
      (member-times z (rows_by o.done) o.row) (one_of-times z.id (ids (rows_by d.0)) d.1.1.1) in
      omega (arith, d.1.1.0, o.index, ap (λ y. y.index) same)
