-- Every replay does steps of the walk alone, and one that can't go on does them all.
use Rattle.std.proofs.Common.{◌≡◌, ◌<◌, ℕ, zero, suc, ◌+◌, Bool, true, false, List, [], ◌∷◌, ◌++◌, length, refl, ap, sym, ◌∙◌, subst, arith, inl, inr}
use Rattle.std.specs.Prelude.{◌⊎◌, Option, Some, None, ltb}
use Rattle.std.proofs.lemmas.Bool.{ltb-true, lt-ltb}
use Rattle.calculus.specs.Outcome.{Prices}
use Rattle.calculus.specs.Log.{Step}
use Rattle.calculus.specs.Steps.{Bag, Meeting, standing, meeting, printed_line}
use Rattle.calculus.specs.Runs.{Work, body_work}
use Rattle.calculus.proofs.Members.{Member, member-split, member-left, member-right}
use Rattle.events.proofs.Counts.{ids, AreDistinct}
use Rattle.events.proofs.Meetings.{Joined, meeting_at}
use Rattle.racing_replays.specs.Replaying.{DoneStep, Replay, done_steps, is_done, names, any_among, all_done, Does, Replays, none_yet, one_more, IsMaximal}
use Rattle.racing_replays.proofs.Ledger.{done-entry, entry-done, in-common, common-in}
use Rattle.racing_replays.proofs.Due.{Due, due-parts, due-whole, all_done-at}
use Rattle.racing_replays.proofs.Keeping.{universe, InLog, Kept}
use Rattle.racing_replays.proofs.Transfer.{Alike, SameRows, due-too, allowed-too}
use Rattle.racing_replays.proofs.Doing.{entry, earlier-part, kept-more}
use Rattle.racing_replays.proofs.Walking.{kept-untried, DoesNow, LeavesOut, one-longer}
use Rattle.racing_replays.proofs.Tries.{TriedAt, Walked}
use Rattle.calculus.proofs.States.{body_keeps}

-- what two lists have in common, the other way round
pub turned : (xs ys : List (List ℕ)) → any_among xs ys ≡ true → any_among ys xs ≡ true
turned xs ys h = let x = in-common xs ys h in common-in x.0 ys xs x.1.1 x.1.0

-- steps that are done and name a row of one that is not have a lower index
pub lower : (b : Bag) (ss : List Step) (ds : List DoneStep) (r : Replay) → Kept b ss ds r → (before : List Step) (s : Step) (after : List Step) → ss ≡ before ++ s ∷ after → is_done (length before) r.done ≡ false
    → (d : DoneStep) → Member d r.done → any_among (names s) (names d.step) ≡ true → d.index < length before
lower b ss ds r k before s after log undone d m a = go (ltb d.index (length before)) refl
  where
    done-no : is_done (length before) r.done ≡ true → ⊥
    done-no e = cc

    other : d.index ≡ length before → ⊥
    other e = done-no (subst (λ n. is_done n r.done ≡ true) e (entry-done d r.done m))

    later : length before < d.index → ⊥
    later h = done-no (k.closed d m before s after log h (turned (names s) (names d.step) a))

    not-less : ltb d.index (length before) ≡ false → d.index < length before → ⊥
    not-less e h = let f : ltb d.index (length before) ≡ true = lt-ltb d.index (length before) h in cc

    go : (c : Bool) → ltb d.index (length before) ≡ c → d.index < length before
    go true e = ltb-true d.index (length before) e
    go false e = absurd (no (λ h. not-less e h) other later)
      where
        no : (d.index < length before → ⊥) → (d.index ≡ length before → ⊥) → (length before < d.index → ⊥) → ⊥
        no f g h = omega arith

module _ (p : Prices) (cap room : ℕ) (b : Bag) (ss : List Step) (k : Replay) (fresh : AreDistinct (ids (universe b k.done))) (w : Walked p cap room b ss k ss k) where
  -- a step that may be done in a replay, as the walk does it
  pub record AsWalk (r : Replay) (before : List Step) (s : Step) (m : Meeting) : Type 0 where
    pub at : Replay
    pub rows : SameRows r at s m
    pub work : Work
    pub works : body_work p cap room s (meeting_at (standing at.bag) rows.taken rows.joined) ≡ Some work
    pub there : Member (entry (length before) s work (printed_line r.bag m)) k.done

  -- what the walk does stands at its end
  stands : (before : List Step) (s : Step) (t : TriedAt p cap room b ss k before s) (d : DoesNow p cap room b before s t.at t.next) → Member (entry (length before) s d.work (printed_line t.at.bag d.found)) k.done
  stands before s t d = subst (λ x. Member now x) (sym t.after_it.is) (member-left _ t.next.done t.after_it.more (subst (λ x. Member now x.done) (sym d.is) (member-right _ t.at.done (now ∷ []) (inl refl))))
    where
      now : DoneStep
      now = entry (length before) s d.work (printed_line t.at.bag d.found)

  module _ (r : Replay) (kr : Kept b ss k.done r) (before : List Step) (s : Step) (after : List Step) (log : ss ≡ before ++ s ∷ after) (t : TriedAt p cap room b ss k before s) where
    -- what the walk did before is done here where it matters
    did : (due : Due b r.done before s) (d : DoneStep) → Member d t.at.done → d.index < length before → any_among (names s) (names d.step) ≡ true → Member d r.done
    did due d m h a = found (done-entry (0 + length i.before) r.done (all_done-at r.done (names s) 0 i.before d.step part.0 (subst (λ us. all_done r.done (names s) 0 us ≡ true) part.1 due.earlier) a))
      where
        i : InLog ss d
        i = t.kept.placed d m

        part : (mid : List Step) × (before ≡ i.before ++ d.step ∷ mid)
        part = earlier-part i.before d.step i.after before (s ∷ after) (sym i.is ∙ log) (omega (arith, i.place, h))

        found : (e : DoneStep) × (Member e r.done × (0 + length i.before) ≡ e.index) → Member d r.done
        found e = subst (λ x. Member x r.done) (sym (w.one d e.0 (t.kept.sub d m) (kr.sub e.0 e.1.0) (omega (arith, i.place, e.1.1)))) e.1.0

    undone-at : (c : Bool) → is_done (length before) t.at.done ≡ c → c ≡ false
    undone-at false e = refl
    undone-at true e = let d = done-entry (length before) t.at.done e in absurd (omega (arith, t.below d.0 d.1.0, d.1.1))

    like : Due b r.done before s → Alike before s r t.at
    like due = record {
      down = λ d m h. t.all d (kr.sub d m) h;
      back = λ d m h a. did due d m h a;
      r_below = λ d m a. lower b ss k.done r kr before s after log due.not_done d m a;
      q_below = λ d m a. t.below d m;
      undone = undone-at (is_done (length before) t.at.done) refl;
    }

    -- a step that may be done here may be done there, with the same rows
    pub meets-there : Due b r.done before s → (m : Meeting) → meeting r.bag (done_steps r.done) s ≡ Some m → SameRows r t.at s m
    meets-there due m e = allowed-too b ss k.done fresh r t.at kr t.kept before s (like due) due m e

    -- a step that may be done here was done by the walk, with the same rows
    pub walk-does : Due b r.done before s → (m : Meeting) → meeting r.bag (done_steps r.done) s ≡ Some m → AsWalk r before s m
    walk-does due m e = go t.how
      where
        same : SameRows r t.at s m
        same = allowed-too b ss k.done fresh r t.at kr t.kept before s (like due) due m e

        inside : (x y : Meeting) → Some x ≡ Some y → x ≡ y
        inside x y f = cc

        go : DoesNow p cap room b before s t.at t.next ⊎ LeavesOut b before s t.at t.next → AsWalk r before s m
        go (inl d) = record {
          at = t.at;
          rows = same;
          work = d.work;
          works = subst (λ x. body_work p cap room s x ≡ Some d.work) (inside d.found _ (sym d.allowed ∙ same.allowed)) d.works;
          there = subst (λ x. Member (entry (length before) s d.work x) k.done) (ap (printed_line t.at.bag) (inside d.found _ (sym d.allowed ∙ same.allowed)) ∙ same.line) (stands before s t d);
        }
        go (inr n) = absurd (no (sym same.allowed ∙ n.may_not (due-whole b t.at.done before s (due-too b ss k.done fresh r t.at kr t.kept before s (like due) due))))
          where
            no : {x : Meeting} → Some x ≡ None → ⊥
            no e = cc e

  -- one work of a step's body, whatever the room
  same-work : (s : Step) (m n : Meeting) (j : Joined) (rs qs ts : List _) → m ≡ meeting_at rs ts j → n ≡ meeting_at qs ts j → (x y : ℕ) (u v : Work) → body_work p cap x s m ≡ Some u → body_work p cap y s n ≡ Some v → u ≡ v
  same-work s m n j rs qs ts e f x y u v g h = inside (sym (body_keeps p cap x (x + y) (omega arith) s (meeting_at rs ts j) u one) ∙ body_keeps p cap y (x + y) (omega arith) s (meeting_at qs ts j) v two)
    where
      one : body_work p cap x s (meeting_at rs ts j) ≡ Some u
      one = subst (λ z. body_work p cap x s z ≡ Some u) e g

      two : body_work p cap y s (meeting_at qs ts j) ≡ Some v
      two = subst (λ z. body_work p cap y s z ≡ Some v) f h

      inside : Some u ≡ Some v → u ≡ v
      inside e = cc

  -- a step that is done is one that the walk does
  pub kept-does : (r q : Replay) → Kept b ss k.done r → Does p cap b ss r q → Kept b ss k.done q
  kept-does r q kr d = subst (Kept b ss k.done) (sym d.is) (kept-more b ss k.done fresh r kr d.before d.step d.after d.log due d.found d.work d.allowed there)
    where
      due : Due b r.done d.before d.step
      due = due-parts b r.done d.before d.step d.due

      there : Member (entry (length d.before) d.step d.work (printed_line r.bag d.found)) k.done
      there =
          let a = walk-does r kr d.before d.step d.after d.log (w.tries d.before d.step d.after d.log) due d.found d.allowed in
          let same : a.work ≡ d.work = same-work d.step (meeting_at (standing a.at.bag) a.rows.taken a.rows.joined) d.found a.rows.joined (standing a.at.bag) (standing r.bag) a.rows.taken refl a.rows.is room d.room a.work d.work a.works d.works in
          subst (λ x. Member (entry (length d.before) d.step x (printed_line r.bag d.found)) k.done) same a.there

  -- every replay does steps of the walk alone
  pub kept-all : (r : Replay) → Replays p cap b ss r → Kept b ss k.done r
  kept-all _ none_yet = kept-untried b ss k.done
  kept-all q (one_more {r} rs d) = kept-does r q (kept-all r rs) d

  -- the walk can't go on
  pub walk-maximal : IsMaximal b ss k
  walk-maximal before s after log due = go (meeting k.bag (done_steps k.done) s) refl
    where
      parts : Due b k.done before s
      parts = due-parts b k.done before s due

      no : is_done (length before) k.done ≡ true → ⊥
      no e = let f : is_done (length before) k.done ≡ false = parts.not_done in cc

      go : (o : Option Meeting) → meeting k.bag (done_steps k.done) s ≡ o → o ≡ None
      go None e = refl
      go (Some m) e = let a = walk-does k w.kept before s after log (w.tries before s after log) parts m e in absurd (no (entry-done (entry (length before) s a.work (printed_line k.bag m)) k.done a.there))

  module _ (r : Replay) (kr : Kept b ss k.done r) (full : IsMaximal b ss r) where
    -- a step of the walk is done, where those below it are
    next-done : (d : DoneStep) → Member d k.done → ((e : DoneStep) → Member e k.done → e.index < d.index → Member e r.done) → Member d r.done
    next-done d m below = go (is_done (length i.before) r.done) refl
      where
        i : InLog ss d
        i = w.kept.placed d m

        tr : TriedAt p cap room b ss k i.before d.step
        tr = w.tries i.before d.step i.after i.is

        like-here : is_done (length i.before) r.done ≡ false → Alike i.before d.step tr.at r
        like-here undone = record {
          down = λ e n h. below e (tr.kept.sub e n) (omega (arith, h, i.place));
          back = λ e n h a. tr.all e (kr.sub e n) h;
          r_below = λ e n a. tr.below e n;
          q_below = λ e n a. lower b ss k.done r kr i.before d.step i.after i.is undone e n a;
          undone = undone;
        }

        clash : is_done (length i.before) r.done ≡ false → DoesNow p cap room b i.before d.step tr.at tr.next → ⊥
        clash undone now =
            let due : Due b tr.at.done i.before d.step = due-parts b tr.at.done i.before d.step now.due in
            let same = allowed-too b ss k.done fresh tr.at r tr.kept kr i.before d.step (like-here undone) due now.found now.allowed in
            no (sym same.allowed ∙ full i.before d.step i.after i.is (due-whole b r.done i.before d.step (due-too b ss k.done fresh tr.at r tr.kept kr i.before d.step (like-here undone) due)))
          where
            no : {x : Meeting} → Some x ≡ None → ⊥
            no e = cc e

        left-out : LeavesOut b i.before d.step tr.at tr.next → ⊥
        left-out n = go (member-split d tr.next.done tr.after_it.more (subst (λ x. Member d x) tr.after_it.is m))
          where
            go : Member d tr.next.done ⊎ Member d tr.after_it.more → ⊥
            go (inl j) = omega (arith, tr.below d (subst (λ x. Member d x.done) n.is j), i.place)
            go (inr j) = omega (arith, tr.after_it.from d j, one-longer i.before d.step, i.place)

        not-undone : is_done (length i.before) r.done ≡ false → DoesNow p cap room b i.before d.step tr.at tr.next ⊎ LeavesOut b i.before d.step tr.at tr.next → ⊥
        not-undone u (inl now) = clash u now
        not-undone u (inr n) = left-out n

        go : (c : Bool) → is_done (length i.before) r.done ≡ c → Member d r.done
        go true e =
            let f = done-entry (length i.before) r.done e in
            subst (λ x. Member x r.done) (sym (w.one d f.0 m (kr.sub f.0 f.1.0) (omega (arith, i.place, f.1.1)))) f.1.0
        go false e = absurd (not-undone e tr.how)

    up-to : (n : ℕ) (d : DoneStep) → Member d k.done → d.index < n → Member d r.done
    up-to zero d m h = absurd (omega (arith, h))
    up-to (suc n) d m h = next-done d m (λ e i j. up-to n e i (omega (arith, h, j)))

    -- a replay that can't go on does all steps of the walk
    pub all-done : (d : DoneStep) → Member d k.done → Member d r.done
    all-done d m = up-to (suc d.index) d m (omega arith)
