-- Where a replay that can't go on made fresh digests there is a walk, and its digests are fresh.
use Rattle.std.proofs.Common.{◌≡◌, ◌≤◌, ◌<◌, ℕ, ◌+◌, Bool, true, false, cond, List, [], ◌∷◌, ◌++◌, length, refl, ap, sym, ◌∙◌, subst, arith, inl, inr, append_assoc}
use Rattle.std.specs.Prelude.{◌⊎◌, Option, Some, None, option_map, option_and_then}
use Rattle.calculus.specs.Outcome.{Prices}
use Rattle.calculus.specs.Log.{Step}
use Rattle.calculus.specs.Rows.{Row}
use Rattle.calculus.specs.Steps.{Bag, Meeting, standing, meeting, printed_line}
use Rattle.calculus.specs.Runs.{Work, body_work}
use Rattle.calculus.proofs.Members.{Member, Every, member-split, each-there}
use Rattle.events.proofs.Counts.{ids, AreDistinct}
use Rattle.events.proofs.Lookups.{rows_with, rows_with-there}
use Rattle.events.proofs.Meetings.{Joined, join, meeting_at, MadeBy, made_by}
use Rattle.events.proofs.Printing.{line_by, line-of}
use Rattle.racing_replays.specs.Replaying.{DoneStep, Replay, done_steps, is_done, names, any_among, all_done, is_due, after_step, Does, Replays, none_yet, one_more, IsMaximal, after_meeting, after_try, walk_from}
use Rattle.racing_replays.proofs.Ledger.{done-entry}
use Rattle.racing_replays.proofs.Due.{Due, due-parts, due-whole, all_done-at}
use Rattle.racing_replays.proofs.Keeping.{universe, InLog, Kept}
use Rattle.racing_replays.proofs.Transfer.{bag-distinct, in-universe, up-universe, Alike, SameRows, due-too, allowed-too}
use Rattle.racing_replays.proofs.Doing.{entry, earlier-part, kept-more}
use Rattle.racing_replays.proofs.Walking.{one-longer}
use Rattle.racing_replays.proofs.Within.{before-does, kept-within, one-index}
use Rattle.racing_replays.proofs.Confluent.{lower}
use Rattle.racing_replays.proofs.Arriving.{step-there}
use Rattle.calculus.proofs.States.{body_keeps}

-- how a done step was made
pub record HowMade (p : Prices) (cap room : ℕ) (us : List Row) (d : DoneStep) : Type 0 where
  pub taken : List Row
  pub joined : Joined
  pub named : names d.step ≡ ids taken
  pub there : Every (λ z. Member z us) taken
  pub joins : join taken ≡ Some joined
  pub works : body_work p cap room d.step (meeting_at [] taken joined) ≡ Some d.work
  pub prints : line_by taken joined ≡ d.printed

module _ (p : Prices) (cap : ℕ) (b : Bag) (ss : List Step) (ds : List DoneStep) (fresh : AreDistinct (ids (universe b ds))) where
  more-room : (m n : ℕ) → m ≤ n → (d : DoneStep) → HowMade p cap m (universe b ds) d → HowMade p cap n (universe b ds) d
  more-room m n h d w = record { taken = w.taken; joined = w.joined; named = w.named; there = w.there; joins = w.joins; works = body_keeps p cap m n h d.step (meeting_at [] w.taken w.joined) d.work w.works; prints = w.prints }

  how-does : (r q : Replay) (k : Kept b ss ds r) (e : Does p cap b ss r q) → HowMade p cap e.room (universe b ds) (entry (length e.before) e.step e.work (printed_line r.bag e.found))
  how-does r q k e = record {
    taken = h.taken;
    joined = h.joined;
    named = h.ids;
    there = each-there _ _ h.taken (λ z i j. up-universe b ss ds fresh r.done k.sub z (in-universe b ss ds fresh r k z j)) h.there;
    joins = h.joins;
    works = subst (λ x. body_work p cap e.room e.step x ≡ Some e.work) h.is e.works;
    prints = sym (ap (printed_line r.bag) h.is ∙ line-of r.bag h.taken h.joined (bag-distinct b ss ds fresh r k) h.joins);
  }
    where
      h : MadeBy (standing r.bag) (done_steps r.done) e.step e.found
      h = made_by r.bag (done_steps r.done) e.step e.found (bag-distinct b ss ds fresh r k) e.allowed

  -- room that is enough for all
  pub record AllMade (r : Replay) : Type 0 where
    pub room : ℕ
    pub how : (d : DoneStep) → Member d r.done → HowMade p cap room (universe b ds) d

  all-does : (r q : Replay) → Kept b ss ds r → Does p cap b ss r q → AllMade r → AllMade q
  all-does r q k e a = record { room = a.room + e.room; how = λ d m. go d (member-split d r.done (entry (length e.before) e.step e.work (printed_line r.bag e.found) ∷ []) (subst (λ x. Member d x.done) e.is m)) }
    where
      go : (d : DoneStep) → Member d r.done ⊎ Member d (entry (length e.before) e.step e.work (printed_line r.bag e.found) ∷ []) → HowMade p cap (a.room + e.room) (universe b ds) d
      go d (inl m) = more-room a.room (a.room + e.room) (omega arith) d (a.how d m)
      go d (inr (inl i)) = subst (HowMade p cap (a.room + e.room) (universe b ds)) (sym i) (more-room e.room (a.room + e.room) (omega arith) _ (how-does r q k e))
      go d (inr (inr m)) = absurd m

  pub all-made : (r : Replay) → Replays p cap b ss r → ((d : DoneStep) → Member d r.done → Member d ds) → AllMade r
  all-made _ none_yet sub = record { room = 0; how = λ d m. absurd m }
  all-made q (one_more {r} rs e) sub = all-does r q (kept-within p cap b ss ds fresh r rs (before-does p cap b ss ds fresh r q e sub)) e (all-made r rs (before-does p cap b ss ds fresh r q e sub))

module _ (p : Prices) (cap : ℕ) (b : Bag) (ss : List Step) (f : Replay) (fresh : AreDistinct (ids (universe b f.done))) (rs : Replays p cap b ss f) (full : IsMaximal b ss f) where
  kf : Kept b ss f.done f
  kf = kept-within p cap b ss f.done fresh f rs (λ d m. m)

  pub made-all : AllMade p cap b ss f.done fresh f
  made-all = all-made p cap b ss f.done fresh f rs (λ d m. m)

  module _ (r : Replay) (kr : Kept b ss f.done r) (before : List Step) (s : Step) (after : List Step) (log : ss ≡ before ++ s ∷ after) (below : (d : DoneStep) → Member d r.done → d.index < length before)
      (due : Due b r.done before s) (m : Meeting) (allowed : meeting r.bag (done_steps r.done) s ≡ Some m) where
    did-too : (d : DoneStep) → Member d f.done → d.index < length before → any_among (names s) (names d.step) ≡ true → Member d r.done
    did-too d n h a = found (done-entry (0 + length i.before) r.done (all_done-at r.done (names s) 0 i.before d.step part.0 (subst (λ us. all_done r.done (names s) 0 us ≡ true) part.1 due.earlier) a))
      where
        i : InLog ss d
        i = kf.placed d n

        part : (mid : List Step) × (before ≡ i.before ++ d.step ∷ mid)
        part = earlier-part i.before d.step i.after before (s ∷ after) (sym i.is ∙ log) (omega (arith, i.place, h))

        found : (e : DoneStep) × (Member e r.done × (0 + length i.before) ≡ e.index) → Member d r.done
        found e = subst (λ x. Member x r.done) (sym (one-index p cap b ss f rs d e.0 n (kr.sub e.0 e.1.0) (omega (arith, i.place, e.1.1)))) e.1.0

    is-there : (c : Bool) → is_done (length before) f.done ≡ c → c ≡ true
    is-there true h = refl
    is-there false h = absurd (no (sym same.allowed ∙ full before s after log (due-whole b f.done before s (due-too b ss f.done fresh r f kr kf before s like due))))
      where
        like : Alike before s r f
        like = record { down = λ d n i. kr.sub d n; back = λ d n i a. did-too d n i a; r_below = λ d n a. below d n; q_below = λ d n a. lower b ss f.done f kf before s after log h d n a; undone = h }

        same : SameRows r f s m
        same = allowed-too b ss f.done fresh r f kr kf before s like due m allowed

        no : {x : Meeting} → Some x ≡ None → ⊥
        no e = cc e

    -- the step as the replay did it
    pub as-done : (v : Work) × (body_work p cap made-all.room s m ≡ Some v × Member (entry (length before) s v (printed_line r.bag m)) f.done)
    as-done = (
      d.0.work,
      (
        works,
        subst (λ o. Member (entry (length before) s d.0.work o) f.done) prints
            (subst (λ n. Member (entry n s d.0.work d.0.printed) f.done) d.1.1.1 (subst (λ u. Member (entry d.0.index u d.0.work d.0.printed) f.done) d.1.1.0 d.1.0)),
      ),
    )
      where
        d : (y : DoneStep) × (Member y f.done × (y.step ≡ s × y.index ≡ length before))
        d = step-there b ss f.done f kf before s after log (is-there (is_done (length before) f.done) refl)

        w : HowMade p cap made-all.room (universe b f.done) d.0
        w = made-all.how d.0 d.1.0

        h : MadeBy (standing r.bag) (done_steps r.done) s m
        h = made_by r.bag (done_steps r.done) s m (bag-distinct b ss f.done fresh r kr) allowed

        same-some : Some w.taken ≡ Some h.taken
        same-some = sym (rows_with-there w.taken (universe b f.done) fresh w.there) ∙ ap (λ xs. rows_with xs (universe b f.done)) (sym w.named ∙ ap names d.1.1.0 ∙ h.ids)
            ∙ rows_with-there h.taken (universe b f.done) fresh (each-there _ _ h.taken (λ z i j. up-universe b ss f.done fresh r.done kr.sub z (in-universe b ss f.done fresh r kr z j)) h.there)

        same-rows : w.taken ≡ h.taken
        same-rows = inside same-some
          where
            inside : {x y : List Row} → Some x ≡ Some y → x ≡ y
            inside e = cc e

        same-join : w.joined ≡ h.joined
        same-join = inside (sym w.joins ∙ ap join same-rows ∙ h.joins)
          where
            inside : {x y : Joined} → Some x ≡ Some y → x ≡ y
            inside e = cc e

        prints : d.0.printed ≡ printed_line r.bag m
        prints = sym w.prints ∙ ap (λ qs. line_by qs w.joined) same-rows ∙ ap (line_by h.taken) same-join
            ∙ sym (ap (printed_line r.bag) h.is ∙ line-of r.bag h.taken h.joined (bag-distinct b ss f.done fresh r kr) h.joins)

        works : body_work p cap made-all.room s m ≡ Some d.0.work
        works = subst (λ x. body_work p cap made-all.room s x ≡ Some d.0.work) (sym h.is)
            (subst (λ j. body_work p cap made-all.room s (meeting_at [] h.taken j) ≡ Some d.0.work) same-join
            (subst (λ qs. body_work p cap made-all.room s (meeting_at [] qs w.joined) ≡ Some d.0.work) same-rows
            (subst (λ u. body_work p cap made-all.room u (meeting_at [] w.taken w.joined) ≡ Some d.0.work) d.1.1.0 w.works)))

  -- a walk from here
  pub record WalksOn (before after : List Step) (r : Replay) : Type 0 where
    pub end : Replay
    pub walks : walk_from p cap made-all.room b before after r ≡ Some end
    pub kept : Kept b ss f.done end

  on-first : (before : List Step) (s : Step) (after : List Step) (r q : Replay) → after_try p cap made-all.room b before s r ≡ Some q → WalksOn (before ++ s ∷ []) after q → WalksOn before (s ∷ after) r
  on-first before s after r q t h = record { end = h.end; walks = ap (λ o. option_and_then (λ x. walk_from p cap made-all.room b (before ++ s ∷ []) after x) o) t ∙ h.walks; kept = h.kept }

  pub walks-on : (before after : List Step) (r : Replay) → ss ≡ before ++ after → Kept b ss f.done r → ((d : DoneStep) → Member d r.done → d.index < length before) → WalksOn before after r
  walks-on before [] r log kr below = record { end = r; walks = refl; kept = kr }
  walks-on before (s ∷ after) r log kr below = start (λ q. walks-on (before ++ s ∷ []) after q (log ∙ sym (append_assoc before (s ∷ []) after))) (is_due b r.done before s) refl
    where
      Next : Replay → Type 0
      Next q = Kept b ss f.done q → ((d : DoneStep) → Member d q.done → d.index < length (before ++ s ∷ [])) → WalksOn (before ++ s ∷ []) after q

      low : (d : DoneStep) → Member d r.done → d.index < length (before ++ s ∷ [])
      low d m = omega (arith, below d m, one-longer before s)

      left-out : ((q : Replay) → Next q) → after_try p cap made-all.room b before s r ≡ Some r → WalksOn before (s ∷ after) r
      left-out next t = on-first before s after r r t (next r kr low)

      does : ((q : Replay) → Next q) → is_due b r.done before s ≡ true → (m : Meeting) → meeting r.bag (done_steps r.done) s ≡ Some m → WalksOn before (s ∷ after) r
      does next d m a = on-first before s after r (after_step r (length before) s m x.0) t (next (after_step r (length before) s m x.0) (kept-more b ss f.done fresh r kr before s after log due m x.0 a x.1.1) lower-too)
        where
          due : Due b r.done before s
          due = due-parts b r.done before s d

          x : (v : Work) × (body_work p cap made-all.room s m ≡ Some v × Member (entry (length before) s v (printed_line r.bag m)) f.done)
          x = as-done r kr before s after log below due m a

          t : after_try p cap made-all.room b before s r ≡ Some (after_step r (length before) s m x.0)
          t = ap (λ c. cond c (after_meeting p cap made-all.room r (length before) s (meeting r.bag (done_steps r.done) s)) (Some r)) d
              ∙ ap (after_meeting p cap made-all.room r (length before) s) a ∙ ap (option_map (after_step r (length before) s m)) x.1.0

          lower-too : (e : DoneStep) → Member e (after_step r (length before) s m x.0).done → e.index < length (before ++ s ∷ [])
          lower-too e n = go (member-split e r.done (entry (length before) s x.0 (printed_line r.bag m) ∷ []) n)
            where
              go : Member e r.done ⊎ Member e (entry (length before) s x.0 (printed_line r.bag m) ∷ []) → e.index < length (before ++ s ∷ [])
              go (inl i) = low e i
              go (inr (inl i)) = omega (arith, ap (λ y. y.index) i, one-longer before s)
              go (inr (inr i)) = absurd i

      meets : ((q : Replay) → Next q) → is_due b r.done before s ≡ true → (o : Option Meeting) → meeting r.bag (done_steps r.done) s ≡ o → WalksOn before (s ∷ after) r
      meets next d None a = left-out next (ap (λ c. cond c (after_meeting p cap made-all.room r (length before) s (meeting r.bag (done_steps r.done) s)) (Some r)) d ∙ ap (after_meeting p cap made-all.room r (length before) s) a)
      meets next d (Some m) a = does next d m a

      start : ((q : Replay) → Next q) → (c : Bool) → is_due b r.done before s ≡ c → WalksOn before (s ∷ after) r
      start next true d = meets next d (meeting r.bag (done_steps r.done) s) refl
      start next false d = left-out next (ap (λ c. cond c (after_meeting p cap made-all.room r (length before) s (meeting r.bag (done_steps r.done) s)) (Some r)) d)
