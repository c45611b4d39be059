-- A step is done where rows that are there fit it.
use Rattle.std.proofs.Common.{◌≡◌, ℕ, suc, Bool, true, false, List, [], ◌∷◌, ◌++◌, length, map as each, refl, sym, ap, subst, ◌∙◌, inl, inr}
use Rattle.std.specs.Prelude.{Some, count_by}
use Rattle.calculus.specs.Log.{Step}
use Rattle.calculus.specs.Rows.{Row, stdout, stdout_ack}
use Rattle.calculus.specs.Steps.{standing, is_one_of}
use Rattle.calculus.specs.Runs.{Deploy}
use Rattle.calculus.proofs.Members.{Member, member-left, member-right, member-each}
use Rattle.events.specs.Events.{stored}
use Rattle.events.specs.Found.{without, leaving_rows, printed_by}
use Rattle.events.proofs.Counts.{ids, member-times, times-one_of}
use Rattle.events.proofs.EventStanding.{built_ins}
use Rattle.events.proofs.Spent.{row-of-id, leaving-met}
use Rattle.events.proofs.Making.{among}
use Rattle.hub_rule.specs.Counts.{Each}
use Rattle.events.specs.Entries.{Making}
use Rattle.racing_replays.specs.Replaying.{DoneStep, done_steps, names, ids_before, is_done, all_done, is_due}
use Rattle.racing_replays.specs.Racing.{RacingState, next_use, later_uses, Finishes}
use Rattle.racing_replays.specs.Laws.{first_bag, IsFresh}
use Rattle.racing_replays.specs.Possible.{HaveArrived, Fits, after_finish}
use Rattle.racing_replays.specs.Counted.{names_id}
use Rattle.racing_replays.proofs.Due.{GivenBy, due-whole, by-given, all-from}
use Rattle.racing_replays.proofs.Keeping.{one-row}
use Rattle.racing_replays.proofs.Possible.{fitting_steps_are_done}
use Rattle.hub_scenes.specs.Spaces.{SeenRow, NewRow, IndexTry, DidStep, Part, Space, new_row, bare, steps_did, lies_in, IsPart}
use Rattle.hub_scenes.specs.Entries.{does, space_after, did_by_try, but_index, indices}
use Rattle.hub_scenes.specs.Showing.{IsLower, use_at, Makes, AreEarly}
use Rattle.hub_scenes.specs.ReplayScene.{did_step, EndIdle, IsEvent, IsReached}
use Rattle.hub_scenes.proofs.Basics.{no-test, has, hold, each-both, each-id, image-of, TakenOut, try-out}
use Rattle.hub_scenes.proofs.Early.{with-tries, all-end, none-meet}
use Rattle.hub_scenes.proofs.Good.{Good}
use Rattle.hub_scenes.proofs.Here.{once, turns, rows-here, given-lower}
use Rattle.hub_scenes.proofs.Uses.{one-count, its-next}
use Rattle.hub_scenes.proofs.Leaving.{lies-so, left-bare, same-uses, built-rows, built-stays}

have-arrived : (store : List Row) (qs : List SeenRow) → ((q : SeenRow) → Member q qs → Member q.row (store ++ (stdout ∷ stdout_ack ∷ []))) → HaveArrived store (bare qs)
have-arrived store [] h = tt
have-arrived store (q ∷ qs) h = (among q.row (store ++ (stdout ∷ stdout_ack ∷ [])) (h q (inl refl)), have-arrived store qs (λ z m. h z (inr m)))

module _ (deploy : Deploy) (ss : List Step) (st : Space) (r : IsReached deploy ss st) (f : IsFresh deploy.rows st.work r.racing.done) where
  module _ (x : IndexTry) (touched : ℕ → Bool) (a : Making) (later : List IndexTry) (mk : Makes ss deploy (st.store ++ st.built) x.index touched a later) where
    at-hand : (q : SeenRow) → Member q mk.rows → Member q (st.store ++ st.built)
    at-hand q m = has q (st.store ++ st.built) (mk.at_hand q (hold q mk.rows m))

    row-stands : (q : SeenRow) → Member q mk.rows → Member q.row (standing (stored r.racing.store))
    row-stands q m = subst (λ l. Member q.row l) (rows-here deploy ss st r f) (member-each (λ y. y.row) q (st.store ++ st.built) (at-hand q m))

    bare-stands : (z : Row) → Member z (bare mk.rows) → Member z (standing (stored r.racing.store))
    bare-stands z m = let q = image-of (λ (y : SeenRow). y.row) z mk.rows m in subst (λ y. Member y (standing (stored r.racing.store))) (sym q.1.1) (row-stands q.0 q.1.0)

    -- the row with an id that the step names
    named-row : (y : List ℕ) → names_id y a.step ≡ true → (q : SeenRow) × (Member q mk.rows × y ≡ q.row.id)
    named-row y n =
        let z = row-of-id y (bare mk.rows) (sym (ap (is_one_of y) mk.fits.named) ∙ n) in
        let q = image-of (λ (s : SeenRow). s.row) z.0 mk.rows z.1 in
        (q.0, (q.1.0, z.2 ∙ ap (λ w. w.id) q.1.1))

    pub row-named : (q : SeenRow) → Member q mk.rows → names_id q.row.id a.step ≡ true
    row-named q m = ap (is_one_of q.row.id) mk.fits.named ∙ times-one_of q.row.id (ids (bare mk.rows)) (member-times q.row (bare mk.rows) (member-each (λ y. y.row) q mk.rows m))

    -- a row of the space that the step names is at hand, and lies in touched shards
    pub named-lies : (q : SeenRow) → Member q (st.store ++ st.built) → names_id q.row.id a.step ≡ true → lies_in touched q.row ≡ true
    named-lies q m n =
        let z = named-row q.row.id n in
        let same : q.row ≡ z.0.row = one-row (standing (stored r.racing.store)) (once deploy ss st r f) q.row z.0.row
        (subst (λ l. Member q.row l) (rows-here deploy ss st r f) (member-each (λ y. y.row) q (st.store ++ st.built) m)) (row-stands z.0 z.1.0) z.1.1 in
        lies-so touched (bare mk.rows) q.row mk.covers (subst (λ y. Member y (bare mk.rows)) (sym same) (member-each (λ y. y.row) z.0 mk.rows z.1.0))

    pub gone-named : (y : List ℕ) → is_one_of y a.gone ≡ true → names_id y a.step ≡ true
    gone-named y e =
        let ls = leaving_rows mk.found.receiver.kind mk.found.sends (bare mk.rows) in
        let z = row-of-id y ls (sym (ap (is_one_of y) mk.gone) ∙ e) in
        let q = image-of (λ (s : SeenRow). s.row) z.0 mk.rows (leaving-met mk.found.receiver.kind mk.found.sends (bare mk.rows) z.0 z.1) in
        subst (λ i. names_id i a.step ≡ true) (sym (z.2 ∙ ap (λ w. w.id) q.1.1)) (row-named q.0 q.1.0)

    -- a built-in receiver stays
    built-stay : (z : Row) → Member z built_ins → is_one_of z.id a.gone ≡ false
    built-stay z m = no-test (is_one_of z.id a.gone) leaves
      where
        leaves : is_one_of z.id a.gone ≡ true → ⊥
        leaves e =
            let ls = leaving_rows mk.found.receiver.kind mk.found.sends (bare mk.rows) in
            let l = row-of-id z.id ls (sym (ap (is_one_of z.id) mk.gone) ∙ e) in
            let same : l.0 ≡ z = one-row (standing (stored r.racing.store)) (once deploy ss st r f) l.0 z
            (bare-stands l.0 (leaving-met mk.found.receiver.kind mk.found.sends (bare mk.rows) l.0 l.1)) (member-right z r.racing.store built_ins m) (sym l.2) in
            built-stays (bare mk.rows) mk.found mk.fits.meets z m (subst (λ y. Member y ls) same l.1)

    abbrev made : DoneStep
    made = record { index = length mk.before; step = a.step; work = mk.work; printed = printed_by (bare mk.rows) mk.found }

    fits : Fits r.racing.store mk.before a.step (bare mk.rows) mk.found
    fits = record {
      named = mk.fits.named;
      arrived = have-arrived r.racing.store mk.rows (λ q m. row-stands q m);
      differs = mk.fits.differs;
      meets = mk.fits.meets;
      repeats = mk.fits.repeats;
    }

    -- as many done steps name a row at hand as steps before this one
    done-before : (q : SeenRow) → Member q mk.rows → q.done ≡ count_by (names_id q.row.id) mk.before
    done-before q m = one-count q.row.id ss mk.before a.step mk.after mk.log (row-named q m) q.done (mk.fits.turn q (hold q mk.rows m) ∙ ap (λ n. Some n) (sym mk.place))

    next-at : (q : SeenRow) → Member q mk.rows → next_use q.row.id (suc x.index) 0 ss ≡ use_at ss q.row.id (suc q.done)
    next-at q m = ap (λ n. next_use q.row.id (suc n) 0 ss) (sym mk.place) ∙ its-next q.row.id ss mk.before a.step mk.after mk.log (row-named q m) ∙ ap (λ n. use_at ss q.row.id (suc n)) (sym (done-before q m))

    module _ (g : Good (first_bag deploy.rows st.work) st) where
      counts : (y : List ℕ) → names_id y a.step ≡ true → count_by (names_id y) (steps_did st.done) ≡ count_by (names_id y) mk.before
      counts y n =
          let q = named-row y n in
          subst (λ i. count_by (names_id i) (steps_did st.done) ≡ count_by (names_id i) mk.before) (sym q.1.1)
          (sym (g.counts q.0 (at-hand q.0 q.1.0)) ∙ done-before q.0 q.1.0)

      turn : is_done (length mk.before) r.racing.done ≡ false × all_done r.racing.done (names a.step) 0 mk.before ≡ true
      turn = (turns deploy ss st r f mk.before a.step mk.after mk.log).1 counts

      given : (y : List ℕ) → names_id y a.step ≡ true → is_one_of y (ids_before (first_bag deploy.rows st.work) (length mk.before) r.racing.done) ≡ true
      given y n =
          let q = named-row y n in
          by-given (first_bag deploy.rows st.work) (length mk.before) r.racing.done y (subst (λ i. GivenBy (first_bag deploy.rows st.work) (length mk.before) r.racing.done i) (sym q.1.1)
          (given-lower deploy ss st r f q.0.row q.0.from (length mk.before) (g.origin q.0 (at-hand q.0 q.1.0))
          (subst (IsLower q.0.from) (sym mk.place) (mk.fits.lower q.0 (hold q.0 mk.rows q.1.0)))))

      due : is_due (first_bag deploy.rows st.work) r.racing.done mk.before a.step ≡ true
      due = due-whole (first_bag deploy.rows st.work) r.racing.done mk.before a.step (record { not_done = turn.0; given = all-from (names a.step) _ given; earlier = turn.1 })

      module _ (tried : Member x.index st.tries) (shards : List (ℕ × Part)) (parts : Each (IsPart st) shards) (idle : AreEarly ss shards mk.rows mk.early) where
        out : TakenOut st.tries x.index (but_index x.index st.tries)
        out = try-out x.index st.tries tried

        event : Finishes deploy.prices deploy.limit (first_bag deploy.rows st.work) ss r.racing (after_finish ss r.racing out.pre out.post (length mk.before) a.step (bare mk.rows) mk.found mk.work)
        event = fitting_steps_are_done deploy st.work ss r.racing f r.begins.quiet r.races out.pre out.post mk.before a.step mk.after mk.log
            (sym r.is.tries ∙ out.is ∙ ap (λ n. out.pre ++ n ∷ out.post) (sym mk.place)) due (bare mk.rows) mk.found fits mk.room mk.work mk.works

        gone-is : without a.gone r.racing.store ≡ without (ids (leaving_rows mk.found.receiver.kind mk.found.sends (bare mk.rows))) r.racing.store
        gone-is = ap (λ ns. without ns r.racing.store) mk.gone

        store-is : bare (space_after st touched (does x a later)).store ≡ without (ids (leaving_rows mk.found.receiver.kind mk.found.sends (bare mk.rows))) r.racing.store
        store-is = left-bare touched a.step a.gone st.store (λ q m e. named-lies q (member-left q st.store st.built m) (gone-named q.row.id e)) ∙ ap (without a.gone) r.is.store ∙ gone-is

        tries-are : mk.early ++ indices later ≡ later_uses ss (length mk.before) (standing (stored (without (ids (leaving_rows mk.found.receiver.kind mk.found.sends (bare mk.rows))) r.racing.store))) (names a.step)
        tries-are = mk.are ∙ same-uses ss x.index a.gone r.racing.store mk.rows (once deploy ss st r f) bare-stands built-stay next-at
            ∙ ap (later_uses ss x.index (standing (stored (without a.gone r.racing.store)))) (sym mk.fits.named)
            ∙ ap (λ n. later_uses ss n (standing (stored (without a.gone r.racing.store))) (names a.step)) (sym mk.place)
            ∙ ap (λ l. later_uses ss (length mk.before) (standing (stored l)) (names a.step)) gone-is

        abbrev mid : RacingState
        mid = after_finish ss r.racing out.pre out.post (length mk.before) a.step (bare mk.rows) mk.found mk.work

        abbrev last : RacingState
        last = with-tries (first_bag deploy.rows st.work) ss mid.store mid.arriving mid.done ((out.pre ++ out.post) ++ indices later)

        -- the early tries end
        ends : EndIdle (first_bag deploy.rows st.work) ss mk.early mid last
        ends = subst (λ ts. EndIdle (first_bag deploy.rows st.work) ss mk.early (with-tries (first_bag deploy.rows st.work) ss mid.store mid.arriving mid.done ts) last) (ap (λ l. (out.pre ++ out.post) ++ l) tries-are)
            (all-end (first_bag deploy.rows st.work) ss mid.store mid.arriving mid.done mk.early (out.pre ++ out.post) (indices later)
            (λ i m before s after log place due. none-meet deploy ss st r f shards parts mk.rows at-hand (ids (leaving_rows mk.found.receiver.kind mk.found.sends (bare mk.rows))) s (idle i m before s after log place) (done_steps mid.done)))

        pub done-event : IsEvent deploy ss st touched (does x a later)
        done-event = record {
          reached = r;
          next = last;
          event = record { between = mid; finishes = event; early = mk.early; ends = ends };
          is = record {
            built = built-rows touched a.step st.built ∙ r.is.built;
            store = store-is;
            arriving = each-both (λ y. y.row) st.arriving (each (new_row (Some x.index)) a.offers) ∙ ap (λ l. l ++ each (λ (y : NewRow). y.row) (each (new_row (Some x.index)) a.offers)) r.is.arriving ∙ ap (λ l. r.racing.arriving ++ l) (each-id (λ y. y.row) (new_row (Some x.index)) (λ z. refl) a.offers ∙ mk.offers);
            tries = ap (λ l. l ++ indices later) out.left;
            done = ap (λ l. l ++ new ∷ []) r.is.done ∙ ap (λ e. each (did_step deploy) r.racing.done ++ e ∷ []) same-did ∙ sym (each-both (did_step deploy) r.racing.done (made ∷ []));
          };
          right = mk;
        }
          where
            new : DidStep
            new = did_by_try x a

            same-did : did_by_try x a ≡ did_step deploy made
            same-did = cc (sym mk.place, mk.offers, mk.price, mk.fault, mk.line)
