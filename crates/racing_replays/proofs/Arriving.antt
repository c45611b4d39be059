-- A row that arrives, and a try that is idle.
use Rattle.std.proofs.Common.{◌≡◌, ℕ, ◌+◌, Bool, true, false, List, [], ◌∷◌, ◌++◌, length, refl, ap, sym, ◌∙◌, subst, arith, inl, inr, append_assoc}
use Rattle.std.specs.Prelude.{◌⊎◌, Some, None, IsPermutation}
use Rattle.calculus.specs.Outcome.{Prices}
use Rattle.calculus.specs.Log.{Step}
use Rattle.calculus.specs.Rows.{Row}
use Rattle.calculus.specs.Steps.{Bag, Meeting, standing, stored_rows, is_one_of, meeting}
use Rattle.calculus.proofs.Members.{Member, member-split, member-left, member-right}
use Rattle.events.specs.Events.{stored}
use Rattle.events.proofs.Counts.{ids, times, AreDistinct}
use Rattle.events.proofs.EventStanding.{ids-times, standing-times, no-more}
use Rattle.events.proofs.EventFollowing.{append_nothing}
use Rattle.racing_replays.specs.Replaying.{DoneStep, Replay, first_replay, done_steps, is_done, names, is_due, all_done, none_yet}
use Rattle.racing_replays.specs.Racing.{next_use}
use Rattle.racing_replays.proofs.Lists.{but-one, with-one, middle}
use Rattle.racing_replays.proofs.Ledger.{done-entry, common-in}
use Rattle.racing_replays.proofs.Due.{Due, due-parts, all_done-at}
use Rattle.racing_replays.proofs.Keeping.{universe, InLog, Kept}
use Rattle.racing_replays.proofs.Walking.{kept-untried}
use Rattle.racing_replays.proofs.Together.{InBoth, meets-too}
use Rattle.racing_replays.proofs.Uses.{next-is}
use Rattle.racing_replays.proofs.Going.{Going, all-counts, store-distinct}
use Rattle.calculus.proofs.Permutations.{join, unmoved, moved_after, over}

-- what stands at one place is one
pub same-place : {A : Type 0} (xs : List A) (u : A) (ys zs : List A) (v : A) (ws : List A) → xs ++ u ∷ ys ≡ zs ++ v ∷ ws → length xs ≡ length zs → u ≡ v
same-place [] u ys [] v ws e h = head e
  where
    head : u ∷ ys ≡ v ∷ ws → u ≡ v
    head e = cc
same-place [] u ys (z ∷ zs) v ws e h = absurd (omega (arith, h))
same-place (x ∷ xs) u ys [] v ws e h = absurd (omega (arith, h))
same-place (x ∷ xs) u ys (z ∷ zs) v ws e h = same-place xs u ys zs v ws (tail e) (omega (arith, h))
  where
    tail : x ∷ (xs ++ u ∷ ys) ≡ z ∷ (zs ++ v ∷ ws) → xs ++ u ∷ ys ≡ zs ++ v ∷ ws
    tail e = cc

-- the done step that stands at a place of the log
pub step-there : (b : Bag) (ss : List Step) (ds : List DoneStep) (r : Replay) → Kept b ss ds r → (pre : List Step) (u : Step) (post : List Step) → ss ≡ pre ++ u ∷ post → is_done (length pre) r.done ≡ true
    → (d : DoneStep) × (Member d r.done × (d.step ≡ u × d.index ≡ length pre))
step-there b ss ds r k pre u post e h = (d.0, (d.1.0, (same-place i.before d.0.step i.after pre u post (sym i.is ∙ e) (i.place ∙ sym d.1.1), sym d.1.1)))
  where
    d : (x : DoneStep) × (Member x r.done × length pre ≡ x.index)
    d = done-entry (length pre) r.done h

    i : InLog ss d.0
    i = k.placed d.0 d.1.0

module _ (p : Prices) (cap : ℕ) (b : Bag) (ss : List Step) (ds : List DoneStep) (fresh : AreDistinct (ids (universe b ds))) where
  -- before the first event
  pub going-first : (rows new : List Row) → stored_rows b ≡ rows ++ new → ((s : Step) → meeting (stored rows) [] s ≡ None) → Going p cap b ss ds fresh (first_replay b) rows new []
  going-first rows new e quiet = record {
    replays = none_yet;
    kept = kept-untried b ss ds;
    rows = subst (λ l. IsPermutation (stored_rows b) l) e (unmoved (stored_rows b));
    unnamed = λ z m d n. absurd n;
    pending = λ before s after log due m f. absurd (no (sym f ∙ quiet s));
  }
    where
      no : {x : Meeting} → Some x ≡ None → ⊥
      no e = cc e

  module _ (r : Replay) (store arriving : List Row) (tries : List ℕ) (g : Going p cap b ss ds fresh r store arriving tries) where
    -- a try is idle
    pub going-idle : (pre : List ℕ) (i : ℕ) (post : List ℕ) → tries ≡ pre ++ i ∷ post
        → ((before : List Step) (s : Step) (after : List Step) → ss ≡ before ++ s ∷ after → length before ≡ i → is_due b r.done before s ≡ true → meeting (stored store) (done_steps r.done) s ≡ None)
        → Going p cap b ss ds fresh r store arriving (pre ++ post)
    going-idle pre i post e may_not = record {
      replays = g.replays;
      kept = g.kept;
      rows = g.rows;
      unnamed = g.unnamed;
      pending = λ before s after log due m f. go before s after log due m f (but-one (length before) i pre post (subst (λ l. Member (length before) l) e (g.pending before s after log due m f)));
    }
      where
        no : {x : Meeting} → Some x ≡ None → ⊥
        no e = cc e

        go : (before : List Step) (s : Step) (after : List Step) → ss ≡ before ++ s ∷ after → is_due b r.done before s ≡ true → (m : Meeting) → meeting (stored store) (done_steps r.done) s ≡ Some m
            → (length before ≡ i) ⊎ Member (length before) (pre ++ post) → Member (length before) (pre ++ post)
        go before s after log due m f (inl h) = absurd (no (sym f ∙ may_not before s after log h due))
        go before s after log due m f (inr h) = h

    module _ (row : Row) (pre post : List Row) (here : arriving ≡ pre ++ row ∷ post) where
      abbrev grown : List Row
      grown = store ++ row ∷ []

      arrived-moved : IsPermutation (store ++ arriving) (grown ++ (pre ++ post))
      arrived-moved = subst (λ l. IsPermutation (store ++ l) (grown ++ (pre ++ post))) (sym here)
          (subst (λ l. IsPermutation (store ++ (pre ++ row ∷ post)) l) (sym (append_assoc store (row ∷ []) (pre ++ post))) (moved_after store (over row pre post)))

      grown-distinct : AreDistinct (ids (standing (stored grown)))
      grown-distinct x = omega (
        arith,
        standing-times x (stored grown),
        ids-times x grown [],
        ids-times x store (row ∷ []),
        all-counts p cap b ss ds fresh r store arriving tries g x,
        ap (λ l. times x (ids l)) here,
        ids-times x pre (row ∷ post),
        ids-times x (row ∷ []) post,
      )

      row-arriving : Member row arriving
      row-arriving = subst (λ l. Member row l) (sym here) (middle row pre post)

      -- a step that doesn't name the row could be made before
      before-it : (s : Step) → is_one_of row.id (names s) ≡ false → (z : Row) → is_one_of z.id (names s) ≡ true → Member z (standing (stored grown)) → Member z (standing (stored store))
      before-it s f z n = no-more (stored grown) (stored store) z (λ m. subst (λ l. Member z l) (sym (append_nothing store)) (go (member-split z store (row ∷ []) (subst (λ l. Member z l) (append_nothing grown) m))))
        where
          no : is_one_of row.id (names s) ≡ true → ⊥
          no e = cc

          go : Member z store ⊎ Member z (row ∷ []) → Member z store
          go (inl m) = m
          go (inr (inl e)) = absurd (no (subst (λ y. is_one_of y.id (names s) ≡ true) e n))
          go (inr (inr m)) = absurd m

      -- a step that does is the first to name it
      first-use : (before : List Step) (s : Step) (after : List Step) → ss ≡ before ++ s ∷ after → is_due b r.done before s ≡ true → is_one_of row.id (names s) ≡ true → Member (length before) (next_use row.id 0 0 ss)
      first-use before s after log due n = subst (λ m. Member m (next_use row.id 0 0 ss)) plain
          (subst (λ l. Member (0 + length before) (next_use row.id 0 0 l)) (sym log) (next-is row.id 0 0 before s after n (omega arith) (λ mid u rest e l. none mid u rest e (is_one_of row.id (names u)) refl)))
        where
          plain : 0 + length before ≡ length before
          plain = omega arith

          parts : Due b r.done before s
          parts = due-parts b r.done before s due

          clash : (mid : List Step) (u : Step) (rest : List Step) → before ≡ mid ++ u ∷ rest → is_one_of row.id (names u) ≡ true → ⊥
          clash mid u rest e i =
              let done : is_done (0 + length mid) r.done ≡ true =
              all_done-at r.done (names s) 0 mid u rest (subst (λ us. all_done r.done (names s) 0 us ≡ true) e parts.earlier) (common-in row.id (names s) (names u) n i) in
              let log2 : ss ≡ mid ++ u ∷ (rest ++ s ∷ after) = log ∙ ap (λ l. l ++ s ∷ after) e ∙ append_assoc mid (u ∷ rest) (s ∷ after) in
              let zero : 0 + length mid ≡ length mid = omega arith in
              let d = step-there b ss ds r g.kept mid u (rest ++ s ∷ after) log2 (subst (λ m. is_done m r.done ≡ true) zero done) in
              let f : is_one_of row.id (names d.0.step) ≡ false = g.unnamed row row-arriving d.0 d.1.0 in
              no (sym f ∙ ap (λ x. is_one_of row.id (names x)) d.1.1.0 ∙ i)
            where
              no : false ≡ true → ⊥
              no e = cc

          none : (mid : List Step) (u : Step) (rest : List Step) → before ≡ mid ++ u ∷ rest → (c : Bool) → is_one_of row.id (names u) ≡ c → c ≡ false
          none mid u rest e false i = refl
          none mid u rest e true i = absurd (clash mid u rest e i)

      -- a row arrives
      pub going-arrival : Going p cap b ss ds fresh r grown (pre ++ post) (tries ++ next_use row.id 0 0 ss)
      going-arrival = record {
        replays = g.replays;
        kept = g.kept;
        rows = join g.rows arrived-moved;
        unnamed = λ z m. g.unnamed z (subst (λ l. Member z l) (sym here) (with-one z row pre post m));
        pending = λ before s after log due m e. go before s after log due m e (is_one_of row.id (names s)) refl;
      }
        where
          go : (before : List Step) (s : Step) (after : List Step) → ss ≡ before ++ s ∷ after → is_due b r.done before s ≡ true → (m : Meeting) → meeting (stored grown) (done_steps r.done) s ≡ Some m
              → (c : Bool) → is_one_of row.id (names s) ≡ c → Member (length before) (tries ++ next_use row.id 0 0 ss)
          go before s after log due m e true n = member-right (length before) tries (next_use row.id 0 0 ss) (first-use before s after log due n)
          go before s after log due m e false n =
              let both : InBoth (stored grown) (stored store) (done_steps r.done) s m =
              meets-too (stored grown) (stored store) (done_steps r.done) (done_steps r.done) s m grown-distinct (store-distinct p cap b ss ds fresh r store arriving tries g) (before-it s n) refl e in
              member-left (length before) tries (next_use row.id 0 0 ss) (g.pending before s after log due _ both.allowed)
