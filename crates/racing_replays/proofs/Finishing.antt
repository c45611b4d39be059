-- A step that is done by a worker.
use Rattle.std.proofs.Common.{◌≡◌, ◌≤◌, ◌<◌, ℕ, suc, ◌+◌, Bool, true, false, cond, ◌||◌, List, [], ◌∷◌, ◌++◌, length, refl, ap, sym, ◌∙◌, subst, arith, inl, inr, append_assoc}
use Rattle.std.specs.Prelude.{◌⊎◌, Some, flat_map, eqb, count_by, IsPermutation}
use Rattle.std.proofs.lemmas.Bool.{eqb-true}
use Rattle.calculus.specs.Outcome.{Prices}
use Rattle.calculus.specs.Log.{Step}
use Rattle.calculus.specs.Rows.{Row}
use Rattle.calculus.specs.Steps.{Bag, Meeting, standing, stored_rows, is_one_of, same_meeting, meeting, printed_line, bag_after}
use Rattle.calculus.specs.Runs.{Work, body_work}
use Rattle.calculus.proofs.Members.{Member, member-split, member-left, member-right, every-at}
use Rattle.events.specs.Events.{stored}
use Rattle.events.specs.Found.{without, leaving_rows}
use Rattle.events.proofs.Orders.{without-moved, times-moved}
use Rattle.events.proofs.Counts.{ids, times, AreDistinct, member-times, times-one_of, one_of-times}
use Rattle.events.proofs.Meetings.{meeting_at, MadeBy, made_by}
use Rattle.events.proofs.Leaving.{without-append}
use Rattle.events.proofs.Changed.{all-leaving-times, among-times}
use Rattle.events.proofs.EventStanding.{ids-times, standing-times, no-more, left-there, left-times, none-leaves}
use Rattle.events.proofs.EventFollowing.{append_nothing, bag-left}
use Rattle.events.proofs.Spent.{row-of-id}
use Rattle.racing_replays.specs.Replaying.{DoneStep, Replay, done_steps, rows_by, is_done, names, ids_before, any_among, all_done, is_due, after_step, Replays, one_more}
use Rattle.racing_replays.specs.Racing.{next_use, rest_after, later_uses}
use Rattle.racing_replays.proofs.Lists.{but-one, count-same}
use Rattle.racing_replays.proofs.Ledger.{entry-done, one-first, common-in, in-common}
use Rattle.racing_replays.proofs.Due.{Due, due-parts, due-whole, all-up, all_done-at, all_done-from, GivenBy, given-by, by-given}
use Rattle.racing_replays.proofs.Keeping.{offers, universe, all_gone, Kept}
use Rattle.racing_replays.proofs.Transfer.{bag-distinct, offers-in, same-share}
use Rattle.racing_replays.proofs.Doing.{entry, earlier-part, done-still, kept-more}
use Rattle.racing_replays.proofs.Confluent.{turned}
use Rattle.racing_replays.proofs.Together.{InBoth, meets-too}
use Rattle.racing_replays.proofs.Uses.{next-is}
use Rattle.racing_replays.proofs.Going.{universe-more, Going, named-there, all-counts, store-times, store-distinct, store-there, not-both}
use Rattle.racing_replays.proofs.Arriving.{same-place, step-there}
use Rattle.calculus.proofs.Permutations.{moved_before}

-- what is done after one more was done before, or is that one
pub done-less : (j : ℕ) (ds : List DoneStep) (e : DoneStep) → is_done j (ds ++ e ∷ []) ≡ true → (is_done j ds ≡ true) ⊎ (j ≡ e.index)
done-less j [] e h = last (eqb j e.index) refl h
  where
    last : (c : Bool) → eqb j e.index ≡ c → c || false ≡ true → (false ≡ true) ⊎ (j ≡ e.index)
    last true k h = inr (eqb-true j e.index k)
    last false k h = inl h
done-less j (d ∷ ds) e h = go (eqb j d.index) (done-less j ds e) h
  where
    go : (c : Bool) → (is_done j (ds ++ e ∷ []) ≡ true → (is_done j ds ≡ true) ⊎ (j ≡ e.index)) → c || is_done j (ds ++ e ∷ []) ≡ true → (c || is_done j ds ≡ true) ⊎ (j ≡ e.index)
    go true next h = inl refl
    go false next h = next h

pub in-flat : (n : ℕ) (f : List ℕ → List ℕ) (x : List ℕ) (xs : List (List ℕ)) → is_one_of x xs ≡ true → Member n (f x) → Member n (flat_map f xs)
in-flat n f x [] h m = cc
in-flat n f x (y ∷ xs) h m = go (in-flat n f x xs) (one-first x y xs h)
  where
    go : (is_one_of x xs ≡ true → Member n (f x) → Member n (flat_map f xs)) → (x ≡ y) ⊎ (is_one_of x xs ≡ true) → Member n (f y ++ flat_map f xs)
    go next (inl e) = member-left n (f y) (flat_map f xs) (subst (λ z. Member n (f z)) e m)
    go next (inr i) = member-right n (f y) (flat_map f xs) (next i m)

module _ (p : Prices) (cap : ℕ) (b : Bag) (ss : List Step) (ds : List DoneStep) (fresh : AreDistinct (ids (universe b ds)))
    (r : Replay) (store arriving : List Row) (tries : List ℕ) (g : Going p cap b ss ds fresh r store arriving tries)
    (before : List Step) (s : Step) (after : List Step) (log : ss ≡ before ++ s ∷ after) (due : is_due b r.done before s ≡ true) (m : Meeting) (allowed : meeting (stored store) (done_steps r.done) s ≡ Some m)
    (room2 : ℕ) (work : Work) (works : body_work p cap room2 s m ≡ Some work) (there : Member (entry (length before) s work (printed_line (stored store) m)) ds) where
  pub kr : Kept b ss ds r
  kr = g.kept

  pub bagged : AreDistinct (ids (standing r.bag))
  bagged = bag-distinct b ss ds fresh r kr

  pub one : AreDistinct (ids (standing (stored store)))
  one = store-distinct p cap b ss ds fresh r store arriving tries g

  pub both : InBoth (stored store) r.bag (done_steps r.done) s m
  both = meets-too (stored store) r.bag (done_steps r.done) (done_steps r.done) s m one bagged (λ z n i. store-there p cap b ss ds fresh r store arriving tries g z i) refl allowed

  abbrev pub here : DoneStep
  here = entry (length before) s work (printed_line r.bag (meeting_at (standing r.bag) both.taken both.joined))

  abbrev pub next : Replay
  next = after_step r (length before) s (meeting_at (standing r.bag) both.taken both.joined) work

  abbrev pub leave : List (List ℕ)
  leave = ids (leaving_rows both.joined.receiver.kind both.joined.sends both.taken)

  -- the step printed what its rows print where they have arrived
  pub same-printed : printed_line (stored store) m ≡ here.printed
  same-printed = sym both.line

  next-replays : Replays p cap b ss next
  next-replays = one_more g.replays (record {
    before = before;
    step = s;
    after = after;
    log = log;
    due = due;
    found = meeting_at (standing r.bag) both.taken both.joined;
    allowed = both.allowed;
    room = room2;
    work = work;
    works = subst (λ x. body_work p cap room2 s x ≡ Some work) both.is works;
    is = refl;
  })

  kq : Kept b ss ds next
  kq = kept-more b ss ds fresh r kr before s after log (due-parts b r.done before s due) (meeting_at (standing r.bag) both.taken both.joined) work both.allowed
      (subst (λ o. Member (entry (length before) s work o) ds) same-printed there)

  left-is : rest_after store m ≡ without leave store
  left-is = ap (λ x. (bag_after (stored store) x []).kept) both.is ∙ ap (λ y. y.kept) (bag-left (stored store) both.taken both.joined [] one)

  -- what the step names has arrived
  taken-times : (x : List ℕ) → 1 ≤ times x (ids both.taken) → 1 ≤ times x (ids (standing (stored store)))
  taken-times x h = among-times x (standing (stored store)) both.taken both.there h

  named-times : (x : List ℕ) → is_one_of x (names s) ≡ true → 1 ≤ times x (ids (standing (stored store)))
  named-times x h = taken-times x (one_of-times x (ids both.taken) (sym (ap (is_one_of x) both.named) ∙ h))

  -- what has arrived was there
  arrived-times : (x : List ℕ) → times x (ids (standing (stored store))) ≤ times x (ids (universe b r.done))
  arrived-times x = omega (
    arith,
    store-times p cap b ss ds fresh r store arriving tries g x,
    times-moved x g.rows,
    ids-times x store arriving,
    standing-times x b,
    ap (λ l. times x (ids l)) kr.rows,
    left-times x (all_gone (universe b ds) r.done) (stored_rows b ++ offers r.done),
    ids-times x (stored_rows b) (offers r.done),
    ids-times x (standing b) (offers r.done),
  )

  -- what is new was not there
  not-new : (x : List ℕ) → 1 ≤ times x (ids (universe b r.done)) → 1 ≤ times x (ids (rows_by here)) → ⊥
  not-new x h i = omega (
    arith,
    h,
    i,
    universe-more b x r.done here,
    fresh x,
    ids-times x (standing b) (offers next.done),
    ids-times x (standing b) (offers ds),
    offers-in x next.done ds kq.single kq.sub,
  )

  -- rows that are to arrive don't leave
  arriving-stays : without leave arriving ≡ arriving
  arriving-stays = none-leaves leave arriving (λ z n. go z n (is_one_of z.id leave) refl)
    where
      go : (z : Row) → Member z arriving → (c : Bool) → is_one_of z.id leave ≡ c → c ≡ false
      go z n false e = refl
      go z n true e = absurd (not-both p cap b ss ds fresh r store arriving tries g z.id
          (taken-times z.id (omega (arith, one_of-times z.id leave e, all-leaving-times z.id both.joined both.taken))) (member-times z arriving n))

  next-rows-are : stored_rows next.bag ≡ without leave (stored_rows r.bag) ++ rows_by here
  next-rows-are = ap stored_rows (bag-left r.bag both.taken both.joined (rows_by here) bagged)
      ∙ sym (append_assoc (without leave r.bag.kept) (without leave r.bag.offered) (rows_by here))
      ∙ ap (λ l. l ++ rows_by here) (sym (without-append leave r.bag.kept r.bag.offered))

  next-moved : IsPermutation (stored_rows next.bag) (rest_after store m ++ (arriving ++ rows_by here))
  next-moved = subst (λ l. IsPermutation l (rest_after store m ++ (arriving ++ rows_by here))) (sym next-rows-are)
      (subst (λ l. IsPermutation (without leave (stored_rows r.bag) ++ rows_by here) l) laid (moved_before (rows_by here) (without-moved leave g.rows)))
    where
      laid : without leave (store ++ arriving) ++ rows_by here ≡ rest_after store m ++ (arriving ++ rows_by here)
      laid = ap (λ l. l ++ rows_by here) (without-append leave store arriving ∙ ap (λ l. without leave store ++ l) arriving-stays)
          ∙ append_assoc (without leave store) arriving (rows_by here) ∙ ap (λ l. l ++ (arriving ++ rows_by here)) (sym left-is)

  next-unnamed : (z : Row) → Member z (arriving ++ rows_by here) → (d : DoneStep) → Member d next.done → is_one_of z.id (names d.step) ≡ false
  next-unnamed z n d i = go (is_one_of z.id (names d.step)) refl
    where
      named : is_one_of z.id (names s) ≡ true → 1 ≤ times z.id (ids (universe b r.done))
      named h = omega (arith, named-times z.id h, arrived-times z.id)

      no : (is_one_of z.id (names d.step) ≡ false) → is_one_of z.id (names d.step) ≡ true → ⊥
      no e f = cc

      clash : is_one_of z.id (names d.step) ≡ true → Member z arriving ⊎ Member z (rows_by here) → Member d r.done ⊎ Member d (here ∷ []) → ⊥
      clash h (inl a) (inl c) = no (g.unnamed z a d c) h
      clash h (inl a) (inr (inl c)) = not-both p cap b ss ds fresh r store arriving tries g z.id (named-times z.id (subst (λ y. is_one_of z.id (names y.step) ≡ true) c h)) (member-times z arriving a)
      clash h (inr a) (inl c) = not-new z.id (named-there p cap b ss ds fresh r g.replays kr.sub d z.id c h) (member-times z (rows_by here) a)
      clash h (inr a) (inr (inl c)) = not-new z.id (named (subst (λ y. is_one_of z.id (names y.step) ≡ true) c h)) (member-times z (rows_by here) a)
      clash h (inl a) (inr (inr c)) = c
      clash h (inr a) (inr (inr c)) = c

      go : (c : Bool) → is_one_of z.id (names d.step) ≡ c → c ≡ false
      go false h = refl
      go true h = absurd (clash h (member-split z arriving (rows_by here) n) (member-split d r.done (here ∷ []) i))

  -- what is left has arrived
  left-in : (z : Row) → Member z (standing (stored (rest_after store m))) → Member z (standing (stored store))
  left-in z = no-more (stored (rest_after store m)) (stored store) z (λ i. subst (λ l. Member z l) (sym (append_nothing store))
      (left-there leave store z (subst (λ l. Member z l) left-is (subst (λ l. Member z l) (append_nothing (rest_after store m)) i))))

  left-distinct : AreDistinct (ids (standing (stored (rest_after store m))))
  left-distinct x = omega (
    arith,
    standing-times x (stored (rest_after store m)),
    ids-times x (rest_after store m) [],
    ap (λ l. times x (ids l)) left-is,
    left-times x leave store,
    all-counts p cap b ss ds fresh r store arriving tries g x,
  )

  -- a step that may be done next
  module _ (pre2 : List Step) (u : Step) (post2 : List Step) (log2 : ss ≡ pre2 ++ u ∷ post2) (due2 : is_due b next.done pre2 u ≡ true) (m2 : Meeting) (allowed2 : meeting (stored (rest_after store m)) (done_steps next.done) u ≡ Some m2) where
    parts : Due b r.done before s
    parts = due-parts b r.done before s due

    parts2 : Due b next.done pre2 u
    parts2 = due-parts b next.done pre2 u due2

    how2 : MadeBy (standing (stored (rest_after store m))) (done_steps next.done) u m2
    how2 = made_by (stored (rest_after store m)) (done_steps next.done) u m2 left-distinct allowed2

    -- the row that it names by an id has arrived and stays
    row2 : (x : List ℕ) → is_one_of x (names u) ≡ true → (z : Row) × (Member z (standing (stored (rest_after store m))) × (x ≡ z.id))
    row2 x h = let z = row-of-id x how2.taken (sym (ap (is_one_of x) how2.ids) ∙ h) in (z.0, (every-at _ how2.taken z.0 how2.there z.1, z.2))

    undone : is_done (length pre2) next.done ≡ true → ⊥
    undone h = let f : is_done (length pre2) next.done ≡ false = parts2.not_done in cc

    undone-before : is_done (length pre2) r.done ≡ true → ⊥
    undone-before h = undone (done-still (length pre2) r.done here h)

    not-it : length pre2 ≡ length before → ⊥
    not-it e = undone (subst (λ n. is_done n next.done ≡ true) (sym e) (entry-done here next.done (member-right here r.done (here ∷ []) (inl refl))))

    -- where the two steps share no row, it could be done before
    module _ (apart : any_among (names u) (names s) ≡ false) where
      no-share : any_among (names u) (names s) ≡ true → ⊥
      no-share h = cc

      same-count : count_by (same_meeting u) (done_steps next.done) ≡ count_by (same_meeting u) (done_steps r.done)
      same-count = count-same (same_meeting u) (λ d. d.step) next.done r.done kq.single kr.single (λ d e n. go d e (member-split d r.done (here ∷ []) n)) (λ d e n. member-left d r.done (here ∷ []) n)
        where
          go : (d : DoneStep) → same_meeting u d.step ≡ true → Member d r.done ⊎ Member d (here ∷ []) → Member d r.done
          go d e (inl i) = i
          go d e (inr (inl i)) = absurd (no-share (same-share u s (subst (λ y. same_meeting u y.step ≡ true) i e)))
          go d e (inr (inr i)) = absurd i

      both2 : InBoth (stored (rest_after store m)) (stored store) (done_steps r.done) u m2
      both2 = meets-too (stored (rest_after store m)) (stored store) (done_steps next.done) (done_steps r.done) u m2 left-distinct one (λ z n i. left-in z i) same-count allowed2

      was-not-done : (c : Bool) → is_done (length pre2) r.done ≡ c → c ≡ false
      was-not-done false h = refl
      was-not-done true h = absurd (undone-before h)

      given-then : (x : List ℕ) → is_one_of x (names u) ≡ true → GivenBy b (length pre2) next.done x → GivenBy b (length pre2) r.done x
      given-then x n (inl h) = inl h
      given-then x n (inr d) = go (member-split d.0 r.done (here ∷ []) d.1.0)
        where
          old : 1 ≤ times x (ids (universe b r.done))
          old =
              let z = row2 x n in
              let h : 1 ≤ times z.0.id (ids (standing (stored store))) = member-times z.0 (standing (stored store)) (left-in z.0 z.1.0) in
              omega (arith, subst (λ y. 1 ≤ times y (ids (standing (stored store)))) (sym z.1.1) h, arrived-times x)

          go : Member d.0 r.done ⊎ Member d.0 (here ∷ []) → GivenBy b (length pre2) r.done x
          go (inl i) = inr (d.0, (i, d.1.1))
          go (inr (inl i)) = absurd (not-new x old (one_of-times x (ids (rows_by here)) (subst (λ y. is_one_of x (ids (rows_by y)) ≡ true) i d.1.1.1)))
          go (inr (inr i)) = absurd i

      done-then : (mid : List Step) (v : Step) (rest : List Step) → pre2 ≡ mid ++ v ∷ rest → any_among (names u) (names v) ≡ true → is_done (0 + length mid) r.done ≡ true
      done-then mid v rest e a = go (done-less (0 + length mid) r.done here (all_done-at next.done (names u) 0 mid v rest (subst (λ us. all_done next.done (names u) 0 us ≡ true) e parts2.earlier) a))
        where
          log3 : mid ++ v ∷ (rest ++ u ∷ post2) ≡ before ++ s ∷ after
          log3 = sym (append_assoc mid (v ∷ rest) (u ∷ post2)) ∙ ap (λ l. l ++ u ∷ post2) (sym e) ∙ sym log2 ∙ log

          go : (is_done (0 + length mid) r.done ≡ true) ⊎ (0 + length mid ≡ length before) → is_done (0 + length mid) r.done ≡ true
          go (inl h) = h
          go (inr h) = absurd (no-share (subst (λ y. any_among (names u) (names y) ≡ true) (same-place mid v (rest ++ u ∷ post2) before s after log3 (omega (arith, h))) a))

      due-then : is_due b r.done pre2 u ≡ true
      due-then = due-whole b r.done pre2 u (record {
        not_done = was-not-done (is_done (length pre2) r.done) refl;
        given = all-up (names u) (ids_before b (length pre2) next.done) (ids_before b (length pre2) r.done) (λ x n h. by-given b (length pre2) r.done x (given-then x n (given-by b (length pre2) next.done x h))) parts2.given;
        earlier = all_done-from r.done (names u) 0 pre2 done-then;
      })

      -- so it was to be tried
      tried-then : Member (length pre2) tries
      tried-then = g.pending pre2 u post2 log2 due-then _ both2.allowed

    -- where they share one, its next use is to be tried
    module _ (shared : any_among (names u) (names s) ≡ true) where
      x : (y : List ℕ) × (is_one_of y (names u) ≡ true × is_one_of y (names s) ≡ true)
      x = in-common (names u) (names s) shared

      zero-more : (l : List Step) → 0 + length l ≡ length l
      zero-more l = omega arith

      not-lower : length pre2 < length before → ⊥
      not-lower h =
          let part = earlier-part pre2 u post2 before (s ∷ after) (sym log2 ∙ log) h in
          undone-before (subst (λ n. is_done n r.done ≡ true) (zero-more pre2)
          (all_done-at r.done (names s) 0 pre2 u part.0 (subst (λ us. all_done r.done (names s) 0 us ≡ true) part.1 parts.earlier) (turned (names u) (names s) shared)))

      higher : (length pre2 < length before → ⊥) → (length pre2 ≡ length before → ⊥) → suc (length before) ≤ 0 + length pre2
      higher f h = omega arith

      between : (mid : List Step) (v : Step) (rest : List Step) → pre2 ≡ mid ++ v ∷ rest → suc (length before) ≤ 0 + length mid → is_one_of x.0 (names v) ≡ true → ⊥
      between mid v rest e l n = go (done-less (0 + length mid) r.done here (all_done-at next.done (names u) 0 mid v rest (subst (λ us. all_done next.done (names u) 0 us ≡ true) e parts2.earlier) (common-in x.0 (names u) (names v) x.1.0 n)))
        where
          no : is_done (length before) r.done ≡ true → ⊥
          no h = let f : is_done (length before) r.done ≡ false = parts.not_done in cc

          go : (is_done (0 + length mid) r.done ≡ true) ⊎ (0 + length mid ≡ length before) → ⊥
          go (inr h) = omega (arith, h, l)
          go (inl h) =
              let d = step-there b ss ds r kr mid v (rest ++ u ∷ post2) (log2 ∙ ap (λ us. us ++ u ∷ post2) e ∙ append_assoc mid (v ∷ rest) (u ∷ post2)) (subst (λ n. is_done n r.done ≡ true) (zero-more mid) h) in
              no (kr.closed d.0 d.1.0 before s after log (omega (arith, d.1.1.1, l)) (common-in x.0 (names d.0.step) (names s) (subst (λ y. is_one_of x.0 (names y) ≡ true) (sym d.1.1.0) n) x.1.1))

      not-between : (mid : List Step) (v : Step) (rest : List Step) → pre2 ≡ mid ++ v ∷ rest → suc (length before) ≤ 0 + length mid → (c : Bool) → is_one_of x.0 (names v) ≡ c → c ≡ false
      not-between mid v rest e l false n = refl
      not-between mid v rest e l true n = absurd (between mid v rest e l n)

      next-one : Member (length pre2) (next_use x.0 (suc (length before)) 0 ss)
      next-one = subst (λ n. Member n (next_use x.0 (suc (length before)) 0 ss)) (zero-more pre2) (subst (λ l. Member (0 + length pre2) (next_use x.0 (suc (length before)) 0 l)) (sym log2)
          (next-is x.0 (suc (length before)) 0 pre2 u post2 x.1.0 (higher not-lower not-it) (λ mid v rest e l. not-between mid v rest e l (is_one_of x.0 (names v)) refl)))

      stays : is_one_of x.0 (ids (standing (stored (rest_after store m)))) ≡ true
      stays = let z = row2 x.0 x.1.0 in times-one_of x.0 (ids (standing (stored (rest_after store m)))) (subst (λ y. 1 ≤ times y (ids (standing (stored (rest_after store m))))) (sym z.1.1) (member-times z.0 _ z.1.0))

      tried-next : Member (length pre2) (later_uses ss (length before) (standing (stored (rest_after store m))) (names s))
      tried-next = in-flat (length pre2) (λ y. cond (is_one_of y (ids (standing (stored (rest_after store m))))) (next_use y (suc (length before)) 0 ss) []) x.0 (names s) x.1.1
          (subst (λ c. Member (length pre2) (cond c (next_use x.0 (suc (length before)) 0 ss) [])) (sym stays) next-one)

  -- a step is done
  pub going-finish : (pre post : List ℕ) → tries ≡ pre ++ length before ∷ post
      → Going p cap b ss ds fresh next (rest_after store m) (arriving ++ rows_by here) ((pre ++ post) ++ later_uses ss (length before) (standing (stored (rest_after store m))) (names s))
  going-finish pre post e = record {
    replays = next-replays;
    kept = kq;
    rows = next-moved;
    unnamed = next-unnamed;
    pending = λ pre2 u post2 log2 due2 m2 allowed2. go pre2 u post2 log2 due2 m2 allowed2 (any_among (names u) (names s)) refl;
  }
    where
      go : (pre2 : List Step) (u : Step) (post2 : List Step) (log2 : ss ≡ pre2 ++ u ∷ post2) (due2 : is_due b next.done pre2 u ≡ true) (m2 : Meeting) (allowed2 : meeting (stored (rest_after store m)) (done_steps next.done) u ≡ Some m2)
          → (c : Bool) → any_among (names u) (names s) ≡ c → Member (length pre2) ((pre ++ post) ++ later_uses ss (length before) (standing (stored (rest_after store m))) (names s))
      go pre2 u post2 log2 due2 m2 allowed2 true a = member-right (length pre2) (pre ++ post) _ (tried-next pre2 u post2 log2 due2 m2 allowed2 a)
      go pre2 u post2 log2 due2 m2 allowed2 false a = other (but-one (length pre2) (length before) pre post (subst (λ l. Member (length pre2) l) e (tried-then pre2 u post2 log2 due2 m2 allowed2 a)))
        where
          other : (length pre2 ≡ length before) ⊎ Member (length pre2) (pre ++ post) → Member (length pre2) ((pre ++ post) ++ later_uses ss (length before) (standing (stored (rest_after store m))) (names s))
          other (inl h) = absurd (not-it pre2 u post2 log2 due2 m2 allowed2 h)
          other (inr h) = member-left (length pre2) (pre ++ post) _ h
