-- A step that is done keeps what holds, where the walk does it too.
use Rattle.std.proofs.Common.{◌≡◌, ◌≤◌, ◌<◌, ℕ, ◌+◌, Bool, true, false, ◌||◌, cond, List, [], ◌∷◌, ◌++◌, length, refl, ap, sym, ◌∙◌, subst, arith, inl, inr, append_assoc}
use Rattle.std.specs.Prelude.{◌⊎◌, flat_map, Some, eqb}
use Rattle.std.specs.Str.{bytes_eq}
use Rattle.calculus.specs.Log.{Step}
use Rattle.calculus.specs.Rows.{Row}
use Rattle.calculus.specs.Steps.{Bag, Meeting, standing, stored_rows, is_one_of, meeting, printed_line, bag_after}
use Rattle.calculus.specs.Runs.{Work}
use Rattle.calculus.proofs.Members.{Member, member-split, each-there}
use Rattle.events.specs.Found.{without, leaving_rows}
use Rattle.events.proofs.Counts.{ids, times, AreDistinct, member-times, one_of-times}
use Rattle.events.proofs.Lookups.{rows_with, rows_with-there}
use Rattle.events.proofs.Meetings.{MadeBy, made_by}
use Rattle.events.proofs.Leaving.{without-append}
use Rattle.events.proofs.Changed.{all-leaving-times, among-times}
use Rattle.events.proofs.EventStanding.{ids-times, standing-times, left-times, none-leaves}
use Rattle.events.proofs.EventFollowing.{append_nothing, bag-left}
use Rattle.racing_replays.specs.Replaying.{DoneStep, Replay, done_steps, rows_by, is_done, names, any_among, all_done, after_step}
use Rattle.racing_replays.proofs.Lists.{AreSingle, single-more}
use Rattle.racing_replays.proofs.Ledger.{entry-done, one-split}
use Rattle.racing_replays.proofs.Due.{Due, all_done-at}
use Rattle.racing_replays.proofs.Keeping.{offers, universe, gone_joined, gone_of, gone, all_gone, InLog, Kept}
use Rattle.racing_replays.proofs.Transfer.{offers-in, bag-distinct, in-universe, up-universe}

pub flat-more : {A B : Type 0} (f : A → List B) (xs : List A) (x : A) → flat_map f (xs ++ x ∷ []) ≡ flat_map f xs ++ f x
flat-more f [] x = append_nothing (f x)
flat-more f (y ∷ xs) x = ap (λ l. f y ++ l) (flat-more f xs x) ∙ sym (append_assoc (f y) (flat_map f xs) (f x))

one-append : (x : List ℕ) (ys zs : List (List ℕ)) → is_one_of x (ys ++ zs) ≡ is_one_of x ys || is_one_of x zs
one-append x [] zs = refl
one-append x (y ∷ ys) zs = go (bytes_eq x y) (one-append x ys zs)
  where
    go : (c : Bool) → is_one_of x (ys ++ zs) ≡ is_one_of x ys || is_one_of x zs → c || is_one_of x (ys ++ zs) ≡ (c || is_one_of x ys) || is_one_of x zs
    go true e = refl
    go false e = e

-- what leaves after other rows have left
pub without-twice : (ms ns : List (List ℕ)) (rs : List Row) → without ns (without ms rs) ≡ without (ms ++ ns) rs
without-twice ms ns [] = refl
without-twice ms ns (r ∷ rs) = go (is_one_of r.id ms) refl (is_one_of r.id ns) refl (without-twice ms ns rs)
  where
    go : (c : Bool) → is_one_of r.id ms ≡ c → (d : Bool) → is_one_of r.id ns ≡ d → without ns (without ms rs) ≡ without (ms ++ ns) rs
        → without ns (cond c (without ms rs) (r ∷ without ms rs)) ≡ cond (is_one_of r.id (ms ++ ns)) (without (ms ++ ns) rs) (r ∷ without (ms ++ ns) rs)
    go true e d f h = h ∙ sym (ap (λ x. cond x (without (ms ++ ns) rs) (r ∷ without (ms ++ ns) rs)) (one-append r.id ms ns ∙ ap (λ x. x || is_one_of r.id ns) e))
    go false e true f h = ap (λ x. cond x (without ns (without ms rs)) (r ∷ without ns (without ms rs))) f ∙ h
        ∙ sym (ap (λ x. cond x (without (ms ++ ns) rs) (r ∷ without (ms ++ ns) rs)) (one-append r.id ms ns ∙ ap (λ x. x || is_one_of r.id ns) e ∙ f))
    go false e false f h = ap (λ x. cond x (without ns (without ms rs)) (r ∷ without ns (without ms rs))) f ∙ ap (λ l. r ∷ l) h
        ∙ sym (ap (λ x. cond x (without (ms ++ ns) rs) (r ∷ without (ms ++ ns) rs)) (one-append r.id ms ns ∙ ap (λ x. x || is_one_of r.id ns) e ∙ f))

-- an earlier place in a list
pub earlier-part : {A : Type 0} (xs : List A) (u : A) (ys zs ws : List A) → xs ++ u ∷ ys ≡ zs ++ ws → length xs < length zs → (mid : List A) × (zs ≡ xs ++ u ∷ mid)
earlier-part [] u ys [] ws e h = absurd (omega (arith, h))
earlier-part [] u ys (z ∷ zs) ws e h = (zs, ap (λ x. x ∷ zs) (sym (head e)))
  where
    head : u ∷ ys ≡ z ∷ (zs ++ ws) → u ≡ z
    head e = cc
earlier-part (x ∷ xs) u ys [] ws e h = absurd (omega (arith, h))
earlier-part (x ∷ xs) u ys (z ∷ zs) ws e h = let next = earlier-part xs u ys zs ws (tail e) (omega (arith, h)) in (next.0, cc (head e, next.1))
  where
    head : x ∷ (xs ++ u ∷ ys) ≡ z ∷ (zs ++ ws) → x ≡ z
    head e = cc

    tail : x ∷ (xs ++ u ∷ ys) ≡ z ∷ (zs ++ ws) → xs ++ u ∷ ys ≡ zs ++ ws
    tail e = cc

pub done-still : (i : ℕ) (ds : List DoneStep) (e : DoneStep) → is_done i ds ≡ true → is_done i (ds ++ e ∷ []) ≡ true
done-still i [] e h = cc
done-still i (d ∷ ds) e h = go (eqb i d.index) (done-still i ds e) h
  where
    go : (c : Bool) → (is_done i ds ≡ true → is_done i (ds ++ e ∷ []) ≡ true) → c || is_done i ds ≡ true → c || is_done i (ds ++ e ∷ []) ≡ true
    go true next h = refl
    go false next h = next h

-- a done step
abbrev pub entry : ℕ → Step → Work → List ℕ → DoneStep
entry i s w o = record { index = i; step = s; work = w; printed = o }

module _ (b : Bag) (ss : List Step) (ds : List DoneStep) (fresh : AreDistinct (ids (universe b ds))) (r : Replay) (k : Kept b ss ds r) (before : List Step) (s : Step) (after : List Step) (log : ss ≡ before ++ s ∷ after)
    (due : Due b r.done before s) (m : Meeting) (w : Work) (allowed : meeting r.bag (done_steps r.done) s ≡ Some m) (there : Member (entry (length before) s w (printed_line r.bag m)) ds) where
  abbrev here : DoneStep
  here = entry (length before) s w (printed_line r.bag m)

  abbrev more : List DoneStep
  more = r.done ++ here ∷ []

  abbrev all : List Row
  all = universe b ds

  how : MadeBy (standing r.bag) (done_steps r.done) s m
  how = made_by r.bag (done_steps r.done) s m (bag-distinct b ss ds fresh r k) allowed

  -- the ids of the rows that leave
  abbrev leave : List (List ℕ)
  leave = ids (leaving_rows how.joined.receiver.kind how.joined.sends how.taken)

  new-sub : (d : DoneStep) → Member d more → Member d ds
  new-sub d i = go (member-split d r.done (here ∷ []) i)
    where
      go : Member d r.done ⊎ Member d (here ∷ []) → Member d ds
      go (inl j) = k.sub d j
      go (inr (inl e)) = subst (λ x. Member x ds) (sym e) there
      go (inr (inr j)) = absurd j

  new-single : AreSingle more
  new-single = single-more here r.done k.single (λ i. no (entry-done here r.done i))
    where
      no : is_done (length before) r.done ≡ true → ⊥
      no e = let f : is_done (length before) r.done ≡ false = due.not_done in cc

  new-placed : (d : DoneStep) → Member d more → InLog ss d
  new-placed d i = go (member-split d r.done (here ∷ []) i)
    where
      go : Member d r.done ⊎ Member d (here ∷ []) → InLog ss d
      go (inl j) = k.placed d j
      go (inr (inl e)) = subst (InLog ss) (sym e) (record { before = before; after = after; is = log; place = refl })
      go (inr (inr j)) = absurd j

  new-closed : (d : DoneStep) → Member d more → (pre : List Step) (u : Step) (post : List Step) → ss ≡ pre ++ u ∷ post → length pre < d.index → any_among (names d.step) (names u) ≡ true → is_done (length pre) more ≡ true
  new-closed d i pre u post e h a = done-still (length pre) r.done here (go (member-split d r.done (here ∷ []) i))
    where
      plain : 0 + length pre ≡ length pre
      plain = omega arith

      mine : length pre < length before → any_among (names s) (names u) ≡ true → is_done (length pre) r.done ≡ true
      mine h a = let part = earlier-part pre u post before (s ∷ after) (sym e ∙ log) h in
          subst (λ n. is_done n r.done ≡ true) plain (all_done-at r.done (names s) 0 pre u part.0 (subst (λ us. all_done r.done (names s) 0 us ≡ true) part.1 due.earlier) a)

      go : Member d r.done ⊎ Member d (here ∷ []) → is_done (length pre) r.done ≡ true
      go (inl j) = k.closed d j pre u post e h a
      go (inr (inl f)) = mine (subst (λ x. length pre < x.index) f h) (subst (λ x. any_among (names x.step) (names u) ≡ true) f a)
      go (inr (inr j)) = absurd j

  -- the rows that leave are those that the step takes away among all rows
  leaves : gone all s ≡ leave
  leaves = ap gone_of (ap (λ xs. rows_with xs all) how.ids ∙ rows_with-there how.taken all fresh (each-there _ _ how.taken (λ z i j. up-universe b ss ds fresh r.done k.sub z (in-universe b ss ds fresh r k z j)) how.there)) ∙ ap (gone_joined how.taken) how.joins

  bag-times : (x : List ℕ) → times x (ids (standing r.bag)) ≤ times x (ids (universe b r.done))
  bag-times x = omega (
    arith,
    standing-times x r.bag,
    standing-times x b,
    ap (λ l. times x (ids l)) k.rows,
    left-times x (all_gone all r.done) (stored_rows b ++ offers r.done),
    ids-times x (stored_rows b) (offers r.done),
    ids-times x (standing b) (offers r.done),
  )

  -- what is taken away was there before
  there-before : (x : List ℕ) → is_one_of x (all_gone all r.done ++ leave) ≡ true → 1 ≤ times x (ids (universe b r.done))
  there-before x e = go (one-split x (all_gone all r.done) leave e)
    where
      go : (is_one_of x (all_gone all r.done) ≡ true) ⊎ (is_one_of x leave ≡ true) → 1 ≤ times x (ids (universe b r.done))
      go (inl h) = k.was_there x h
      go (inr h) =
          omega (arith, bag-times x, among-times x (standing r.bag) how.taken how.there (omega (arith, one_of-times x leave h, all-leaving-times x how.joined how.taken)))

  universe-more : (x : List ℕ) → times x (ids (universe b more)) ≡ times x (ids (universe b r.done)) + times x (ids (rows_by here))
  universe-more x = omega (
    arith,
    ids-times x (standing b) (offers more),
    ids-times x (standing b) (offers r.done),
    ap (λ l. times x (ids l)) (flat-more rows_by r.done here),
    ids-times x (offers r.done) (rows_by here),
  )

  all-more : all_gone all more ≡ all_gone all r.done ++ leave
  all-more = flat-more (λ d. gone all d.step) r.done here ∙ ap (λ l. all_gone all r.done ++ l) leaves

  new-was-there : (x : List ℕ) → is_one_of x (all_gone all more) ≡ true → 1 ≤ times x (ids (universe b more))
  new-was-there x e = omega (arith, universe-more x, there-before x (sym (ap (is_one_of x) all-more) ∙ e))

  -- what is new is not taken away
  new-stays : without (all_gone all r.done ++ leave) (rows_by here) ≡ rows_by here
  new-stays = none-leaves (all_gone all r.done ++ leave) (rows_by here) (λ z i. go z i (is_one_of z.id (all_gone all r.done ++ leave)) refl)
    where
      go : (z : Row) → Member z (rows_by here) → (c : Bool) → is_one_of z.id (all_gone all r.done ++ leave) ≡ c → c ≡ false
      go z i false e = refl
      go z i true e = absurd (omega (
        arith,
        there-before z.id e,
        member-times z (rows_by here) i,
        universe-more z.id,
        fresh z.id,
        ids-times z.id (standing b) (offers ds),
        ids-times z.id (standing b) (offers more),
        offers-in z.id more ds new-single new-sub,
      ))

  new-rows : stored_rows (after_step r (length before) s m w).bag ≡ without (all_gone all more) (stored_rows b ++ offers more)
  new-rows =
      ap (λ x. stored_rows (bag_after r.bag x (rows_by here))) how.is
      ∙ ap stored_rows (bag-left r.bag how.taken how.joined (rows_by here) (bag-distinct b ss ds fresh r k))
      ∙ sym (append_assoc (without leave r.bag.kept) (without leave r.bag.offered) (rows_by here))
      ∙ ap (λ l. l ++ rows_by here) (sym (without-append leave r.bag.kept r.bag.offered) ∙ ap (without leave) k.rows ∙ without-twice (all_gone all r.done) leave (stored_rows b ++ offers r.done))
      ∙ ap (λ l. without (all_gone all r.done ++ leave) (stored_rows b ++ offers r.done) ++ l) (sym new-stays)
      ∙ sym (without-append (all_gone all r.done ++ leave) (stored_rows b ++ offers r.done) (rows_by here))
      ∙ ap (without (all_gone all r.done ++ leave)) (append_assoc (stored_rows b) (offers r.done) (rows_by here) ∙ ap (λ l. stored_rows b ++ l) (sym (flat-more rows_by r.done here)))
      ∙ ap (λ ns. without ns (stored_rows b ++ offers more)) (sym all-more)

  pub kept-more : Kept b ss ds (after_step r (length before) s m w)
  kept-more = record { sub = new-sub; single = new-single; placed = new-placed; closed = new-closed; rows = new-rows; was_there = new-was-there }
