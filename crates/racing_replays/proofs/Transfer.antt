-- A step that may be done in one replay may be done in another that agrees on what matters to it.
use Rattle.std.proofs.Common.{◌≡◌, ◌≤◌, ◌<◌, ℕ, ◌+◌, Bool, true, false, ◌&&◌, ◌||◌, List, [], ◌∷◌, ◌++◌, length, refl, ap, sym, ◌∙◌, subst, arith, inl, inr, length-append}
use Rattle.std.specs.Prelude.{◌⊎◌, Some, eqb, count_by}
use Rattle.std.specs.Str.{bytes_eq}
use Rattle.calculus.specs.Log.{Step}
use Rattle.calculus.specs.Rows.{Row}
use Rattle.calculus.specs.Steps.{Bag, Meeting, standing, stored_rows, is_one_of, same_ids, same_meeting, stays, all_persistent, right_repeat, meeting, printed_line}
use Rattle.calculus.proofs.Members.{Member, Every, member-split, member-left, member-right, each-there}
use Rattle.events.proofs.Counts.{ids, times, AreDistinct, bytes_same, member-times, times-one_of}
use Rattle.events.proofs.Meetings.{Joined, join, meeting_at, MadeBy, made_by, makes}
use Rattle.events.proofs.Printing.{line-of}
use Rattle.events.proofs.EventStanding.{built_ins, ids-times, standing-times, from-standing, in-standing, left-there, left-times}
use Rattle.events.proofs.Spent.{row-of-id}
use Rattle.racing_replays.specs.Replaying.{DoneStep, Replay, done_steps, rows_by, is_done, names, any_among, all_done}
use Rattle.racing_replays.proofs.Lists.{AreSingle, tally, tally-in, count-same}
use Rattle.racing_replays.proofs.Ledger.{done-entry, entry-done, one-here, one-flat, flat-one, common-in}
use Rattle.racing_replays.proofs.Due.{all-up, all-at, all_done-at, all_done-from, Due, GivenBy, given-by, by-given}
use Rattle.racing_replays.proofs.Keeping.{offers, universe, gone, all_gone, Kept, gone-named, one-row, left-not-gone, still-there}

pub flat-member : (z : Row) (ds : List DoneStep) → Member z (offers ds) → (d : DoneStep) × (Member d ds × Member z (rows_by d))
flat-member z [] m = absurd m
flat-member z (d ∷ ds) m = go (flat-member z ds) (member-split z (rows_by d) (offers ds) m)
  where
    go : (Member z (offers ds) → (e : DoneStep) × (Member e ds × Member z (rows_by e))) → Member z (rows_by d) ⊎ Member z (offers ds) → (e : DoneStep) × (Member e (d ∷ ds) × Member z (rows_by e))
    go next (inl k) = (d, (inl refl, k))
    go next (inr k) = let e = next k in (e.0, (inr e.1.0, e.1.1))

pub member-flat : (z : Row) (ds : List DoneStep) (d : DoneStep) → Member d ds → Member z (rows_by d) → Member z (offers ds)
member-flat z [] d m h = absurd m
member-flat z (e ∷ ds) d (inl k) h = member-left z (rows_by e) (offers ds) (subst (λ y. Member z (rows_by y)) k h)
member-flat z (e ∷ ds) d (inr m) h = member-right z (rows_by e) (offers ds) (member-flat z ds d m h)

offers-tally : (x : List ℕ) (ds : List DoneStep) → times x (ids (offers ds)) ≡ tally (λ d. times x (ids (rows_by d))) ds
offers-tally x [] = refl
offers-tally x (d ∷ ds) = omega (arith, ids-times x (rows_by d) (offers ds), offers-tally x ds)

-- fewer steps offer no more
pub offers-in : (x : List ℕ) (ds es : List DoneStep) → AreSingle ds → ((d : DoneStep) → Member d ds → Member d es) → times x (ids (offers ds)) ≤ times x (ids (offers es))
offers-in x ds es h f = omega (arith, offers-tally x ds, offers-tally x es, tally-in (λ d. times x (ids (rows_by d))) ds es h (λ z p m. f z m))

module _ (b : Bag) (ss : List Step) (ds : List DoneStep) (fresh : AreDistinct (ids (universe b ds))) where
  pub bag-distinct : (r : Replay) → Kept b ss ds r → AreDistinct (ids (standing r.bag))
  bag-distinct r k x = omega (
    arith,
    fresh x,
    standing-times x r.bag,
    standing-times x b,
    ap (λ l. times x (ids l)) k.rows,
    left-times x (all_gone (universe b ds) r.done) (stored_rows b ++ offers r.done),
    ids-times x (stored_rows b) (offers r.done),
    ids-times x (standing b) (offers ds),
    offers-in x r.done ds k.single k.sub,
  )

  -- a row that was given before, or was offered by a step
  pub begun-in : (es : List DoneStep) (z : Row) → Member z (stored_rows b ++ offers es) → Member z (universe b es)
  begun-in es z m = go (member-split z (stored_rows b) (offers es) m)
    where
      go : Member z (stored_rows b) ⊎ Member z (offers es) → Member z (universe b es)
      go (inl i) = member-left z (standing b) (offers es) (in-standing b z (inl i))
      go (inr i) = member-right z (standing b) (offers es) i

  pub up-universe : (es : List DoneStep) → ((d : DoneStep) → Member d es → Member d ds) → (z : Row) → Member z (universe b es) → Member z (universe b ds)
  up-universe es f z m = go (member-split z (standing b) (offers es) m)
    where
      go : Member z (standing b) ⊎ Member z (offers es) → Member z (universe b ds)
      go (inl i) = member-left z (standing b) (offers ds) i
      go (inr i) = let d = flat-member z es i in member-right z (standing b) (offers ds) (member-flat z ds d.0 (f d.0 d.1.0) d.1.1)

  pub in-universe : (r : Replay) → Kept b ss ds r → (z : Row) → Member z (standing r.bag) → Member z (universe b r.done)
  in-universe r k z m = go (from-standing r.bag z m)
    where
      go : Member z (stored_rows r.bag) ⊎ Member z built_ins → Member z (universe b r.done)
      go (inl i) = begun-in r.done z (left-there (all_gone (universe b ds) r.done) (stored_rows b ++ offers r.done) z (subst (λ l. Member z l) k.rows i))
      go (inr i) = member-left z (standing b) (offers r.done) (in-standing b z (inr i))

-- two replays agree on what matters to a step that stands in the log after these: what the first has done below it, and what the second has done of its rows
pub record Alike (before : List Step) (s : Step) (r q : Replay) : Type 0 where
  pub down : (d : DoneStep) → Member d r.done → d.index < length before → Member d q.done
  pub back : (d : DoneStep) → Member d q.done → d.index < length before → any_among (names s) (names d.step) ≡ true → Member d r.done
  pub r_below : (d : DoneStep) → Member d r.done → any_among (names s) (names d.step) ≡ true → d.index < length before
  pub q_below : (d : DoneStep) → Member d q.done → any_among (names s) (names d.step) ≡ true → d.index < length before
  pub undone : is_done (length before) q.done ≡ false

pub and-first : (x y : Bool) → x && y ≡ true → x ≡ true
and-first true y e = refl
and-first false y e = cc

-- steps that are the same name the same receiver
pub same-share : (s u : Step) → same_meeting s u ≡ true → any_among (names s) (names u) ≡ true
same-share s u e =
    common-in s.receiver (names s) (names u) (one-here s.receiver s.receiver s.data_ids refl) (one-here s.receiver u.receiver u.data_ids (bytes_same s.receiver u.receiver (and-first (bytes_eq s.receiver u.receiver) (same_ids s.data_ids u.data_ids) e)))

-- the same rows meet, wherever they stand
pub record SameRows (r q : Replay) (s : Step) (m : Meeting) : Type 0 where
  pub taken : List Row
  pub joined : Joined
  pub is : m ≡ meeting_at (standing r.bag) taken joined
  pub allowed : meeting q.bag (done_steps q.done) s ≡ Some (meeting_at (standing q.bag) taken joined)
  pub line : printed_line q.bag (meeting_at (standing q.bag) taken joined) ≡ printed_line r.bag m

-- what the same rows print, wherever they stand
pub same-line : (b d : Bag) (taken : List Row) (joined : Joined) (m : Meeting) → AreDistinct (ids (standing b)) → AreDistinct (ids (standing d)) → join taken ≡ Some joined → m ≡ meeting_at (standing b) taken joined
    → printed_line d (meeting_at (standing d) taken joined) ≡ printed_line b m
same-line b d taken joined m x y j e = line-of d taken joined y j ∙ sym (ap (printed_line b) e ∙ line-of b taken joined x j)

module _ (b : Bag) (ss : List Step) (ds : List DoneStep) (fresh : AreDistinct (ids (universe b ds))) (r q : Replay) (k : Kept b ss ds r) (l : Kept b ss ds q) (before : List Step) (s : Step)
    (like : Alike before s r q) (due : Due b r.done before s) where
  shorter : (mid : List Step) (u : Step) (rest : List Step) → before ≡ mid ++ u ∷ rest → 0 + length mid < length before
  shorter mid u rest e = omega (arith, ap length e, length-append mid (u ∷ rest))

  pub due-too : Due b q.done before s
  due-too = record {
    not_done = like.undone;
    given = all-up (names s) _ _ (λ x i j. by-given b (length before) q.done x (up x (given-by b (length before) r.done x j))) due.given;
    earlier = all_done-from q.done (names s) 0 before (λ mid u rest e a.
        later mid u rest e (done-entry (0 + length mid) r.done (all_done-at r.done (names s) 0 mid u rest (subst (λ us. all_done r.done (names s) 0 us ≡ true) e due.earlier) a)));
  }
    where
      up : (x : List ℕ) → GivenBy b (length before) r.done x → GivenBy b (length before) q.done x
      up x (inl h) = inl h
      up x (inr d) = inr (d.0, (like.down d.0 d.1.0 d.1.1.0, d.1.1))

      later : (mid : List Step) (u : Step) (rest : List Step) → before ≡ mid ++ u ∷ rest → (d : DoneStep) × (Member d r.done × (0 + length mid) ≡ d.index) → is_done (0 + length mid) q.done ≡ true
      later mid u rest e d = subst (λ n. is_done n q.done ≡ true) (sym d.1.1) (entry-done d.0 q.done (like.down d.0 d.1.0 (omega (arith, shorter mid u rest e, d.1.1))))

  -- a row that the step names stands in the other bag too
  moves : (z : Row) → is_one_of z.id (names s) ≡ true → Member z (standing r.bag) → Member z (standing q.bag)
  moves z named m = go (from-standing r.bag z m)
    where
      in_all : Member z (universe b ds)
      in_all = up-universe b ss ds fresh r.done k.sub z (in-universe b ss ds fresh r k z m)

      the_one : (y : Row) → Member y (universe b ds) → z.id ≡ y.id → z ≡ y
      the_one y n e = one-row (universe b ds) fresh z y in_all n e

      from : GivenBy b (length before) r.done z.id → (Member z (stored_rows b) ⊎ Member z built_ins) ⊎ Member z (offers q.done)
      from (inl e) =
          let y = row-of-id z.id (standing b) e in
          let same : z ≡ y.0 = the_one y.0 (member-left y.0 (standing b) (offers ds) y.1) y.2 in
          inl (from-standing b z (subst (λ x. Member x (standing b)) (sym same) y.1))
      from (inr d) =
          let y = row-of-id z.id (rows_by d.0) d.1.1.1 in
          let same : z ≡ y.0 = the_one y.0 (member-right y.0 (standing b) (offers ds) (member-flat y.0 ds d.0 (k.sub d.0 d.1.0) y.1)) y.2 in
          inr (member-flat z q.done d.0 (like.down d.0 d.1.0 d.1.1.0) (subst (λ x. Member x (rows_by d.0)) (sym same) y.1))

      here : is_one_of z.id (all_gone (universe b ds) r.done) ≡ false → (c : Bool) → is_one_of z.id (all_gone (universe b ds) q.done) ≡ c → c ≡ false
      here not_gone false e = refl
      here not_gone true e =
          let d = one-flat z.id (λ x. gone (universe b ds) x.step) q.done e in
          let shares : any_among (names s) (names d.0.step) ≡ true = common-in z.id (names s) (names d.0.step) named (gone-named (universe b ds) d.0.step z.id d.1.1) in
          let gone_there : is_one_of z.id (all_gone (universe b ds) r.done) ≡ true =
          flat-one z.id (λ x. gone (universe b ds) x.step) r.done d.0 (like.back d.0 d.1.0 (like.q_below d.0 d.1.0 shares) shares) d.1.1 in
          cc

      stays_here : is_one_of z.id (all_gone (universe b ds) r.done) ≡ false → Member z (stored_rows b ++ offers q.done) → Member z (standing q.bag)
      stays_here not_gone n = in-standing q.bag z (inl (subst (λ rs. Member z rs) (sym l.rows)
          (still-there (all_gone (universe b ds) q.done) (stored_rows b ++ offers q.done) z (here not_gone (is_one_of z.id (all_gone (universe b ds) q.done)) refl) n)))

      ends : is_one_of z.id (all_gone (universe b ds) r.done) ≡ false → (Member z (stored_rows b) ⊎ Member z built_ins) ⊎ Member z (offers q.done) → Member z (standing q.bag)
      ends not_gone (inl (inl i)) = stays_here not_gone (member-left z (stored_rows b) (offers q.done) i)
      ends not_gone (inl (inr i)) = in-standing q.bag z (inr i)
      ends not_gone (inr i) = stays_here not_gone (member-right z (stored_rows b) (offers q.done) i)

      go : Member z (stored_rows r.bag) ⊎ Member z built_ins → Member z (standing q.bag)
      go (inr i) = in-standing q.bag z (inr i)
      go (inl i) =
          ends (left-not-gone (all_gone (universe b ds) r.done) (stored_rows b ++ offers r.done) z (subst (λ rs. Member z rs) k.rows i))
          (from (given-by b (length before) r.done z.id (all-at (names s) _ z.id due.given named)))

  same-count : count_by (same_meeting s) (done_steps r.done) ≡ count_by (same_meeting s) (done_steps q.done)
  same-count = count-same (same_meeting s) (λ d. d.step) r.done q.done k.single l.single
      (λ d e m. like.down d m (like.r_below d m (same-share s d.step e))) (λ d e m. like.back d m (like.q_below d m (same-share s d.step e)) (same-share s d.step e))

  pub allowed-too : (m : Meeting) → meeting r.bag (done_steps r.done) s ≡ Some m → SameRows r q s m
  allowed-too m e = record { taken = h.taken; joined = h.joined; is = h.is; allowed = makes q.bag (done_steps q.done) s h.taken h.joined (bag-distinct b ss ds fresh q l) h.differs h.ids there h.joins repeats; line = same-line r.bag q.bag h.taken h.joined m (bag-distinct b ss ds fresh r k) (bag-distinct b ss ds fresh q l) h.joins h.is }
    where
      h : MadeBy (standing r.bag) (done_steps r.done) s m
      h = made_by r.bag (done_steps r.done) s m (bag-distinct b ss ds fresh r k) e

      there : Every (λ z. Member z (standing q.bag)) h.taken
      there = each-there _ _ h.taken (λ z i j. moves z (ap (is_one_of z.id) h.ids ∙ times-one_of z.id (ids h.taken) (member-times z h.taken i)) j) h.there

      was : right_repeat (done_steps r.done) s (meeting_at (standing r.bag) h.taken h.joined) ≡ true
      was = subst (λ x. right_repeat (done_steps r.done) s x ≡ true) h.is h.repeats

      repeats : right_repeat (done_steps q.done) s (meeting_at (standing q.bag) h.taken h.joined) ≡ true
      repeats = subst (λ n. eqb s.repeat n && (eqb s.repeat 0 || (stays h.joined.receiver.kind && all_persistent h.joined.sends)) ≡ true) same-count was
