-- What a walk over a whole log has tried.
use Rattle.std.proofs.Common.{◌≡◌, ◌<◌, ℕ, Bool, true, false, List, [], ◌∷◌, ◌++◌, length, refl, ap, sym, ◌∙◌, subst, arith, inl, inr, append_assoc}
use Rattle.std.specs.Prelude.{◌⊎◌, Option, Some, None, option_and_then}
use Rattle.calculus.specs.Outcome.{Prices}
use Rattle.calculus.specs.Log.{Step}
use Rattle.calculus.specs.Steps.{Bag, printed_line}
use Rattle.calculus.proofs.Members.{Member, member-split, member-left, member-right}
use Rattle.events.proofs.Counts.{ids, AreDistinct}
use Rattle.events.proofs.EventFollowing.{append_nothing}
use Rattle.racing_replays.specs.Replaying.{DoneStep, Replay, first_replay, is_done, done_at, in_order, Replays, none_yet, one_more, after_try, walk_from, walk}
use Rattle.racing_replays.proofs.Ledger.{done-entry}
use Rattle.racing_replays.proofs.InOrder.{none-at, one-at-end}
use Rattle.racing_replays.proofs.Due.{due-parts}
use Rattle.racing_replays.proofs.Keeping.{universe, Kept}
use Rattle.racing_replays.proofs.Doing.{entry, kept-more}
use Rattle.racing_replays.proofs.Walking.{kept-untried, DoesNow, LeavesOut, tried-how, Later, later, later-tried, one-longer, last-split}

module _ (p : Prices) (cap room : ℕ) (b : Bag) (ss : List Step) (k : Replay) where
  -- what a walk that comes to `k` does with the step that stands in the log after these
  pub record TriedAt (before : List Step) (s : Step) : Type 0 where
    pub at : Replay
    pub next : Replay
    pub kept : Kept b ss k.done at
    pub below : (d : DoneStep) → Member d at.done → d.index < length before
    pub all : (d : DoneStep) → Member d k.done → d.index < length before → Member d at.done
    pub after_it : Later (length (before ++ s ∷ [])) next k
    pub how : DoesNow p cap room b before s at next ⊎ LeavesOut b before s at next

  -- what holds of a walk that has come so far
  pub record Walked (before : List Step) (r : Replay) : Type 0 where
    pub replays : Replays p cap b ss r
    pub kept : Kept b ss k.done r
    pub below : (d : DoneStep) → Member d r.done → d.index < length before
    pub one : (d e : DoneStep) → Member d r.done → Member e r.done → d.index ≡ e.index → d ≡ e
    pub ordered : in_order (length before) k.done ≡ r.done
    pub tries : (mid : List Step) (u : Step) (post : List Step) → before ≡ mid ++ u ∷ post → TriedAt mid u

  -- what is done later has no lower index
  pub all-below : (i : ℕ) (r : Replay) → Later i r k → (d : DoneStep) → Member d k.done → d.index < i → Member d r.done
  all-below i r l d m h = go (member-split d r.done l.more (subst (λ x. Member d x) l.is m))
    where
      go : Member d r.done ⊎ Member d l.more → Member d r.done
      go (inl n) = n
      go (inr n) = absurd (omega (arith, l.from d n, h))

  pub walked-start : Walked [] (first_replay b)
  walked-start = record { replays = none_yet; kept = kept-untried b ss k.done; below = λ d m. absurd m; one = λ d e m n f. absurd m; ordered = refl; tries = λ mid u post e. absurd (never mid u post e) }
    where
      never : (l : List Step) (u : Step) (post : List Step) → [] ≡ l ++ u ∷ post → ⊥
      never [] u post e = cc e
      never (y ∷ l) u post e = cc e

  module _ (fresh : AreDistinct (ids (universe b k.done))) (before : List Step) (s : Step) (after : List Step) (log : ss ≡ before ++ s ∷ after) (r q : Replay) (h : Walked before r)
      (t : after_try p cap room b before s r ≡ Some q) (l : Later (length (before ++ s ∷ [])) q k) where
    how : DoesNow p cap room b before s r q ⊎ LeavesOut b before s r q
    how = tried-how p cap room b before s r q t

    now : TriedAt before s
    now = record { at = r; next = q; kept = h.kept; below = h.below; all = all-below (length before) r (later-tried p cap room b before s r q k how l); after_it = l; how = how }

    new-tries : (mid : List Step) (u : Step) (post : List Step) → before ++ s ∷ [] ≡ mid ++ u ∷ post → TriedAt mid u
    new-tries mid u post e = go (last-split before s mid u post e)
      where
        go : ((rest : List Step) × (before ≡ mid ++ u ∷ rest)) ⊎ ((before ≡ mid) × (s ≡ u)) → TriedAt mid u
        go (inl f) = h.tries mid u f.0 f.1
        go (inr f) = subst (λ x. TriedAt mid x) f.1 (subst (λ x. TriedAt x s) f.0 now)

    -- the step that is done now is one that the walk does
    there : (d : DoesNow p cap room b before s r q) → Member (entry (length before) s d.work (printed_line r.bag d.found)) k.done
    there d = subst (λ x. Member (entry (length before) s d.work (printed_line r.bag d.found)) x) (sym l.is)
        (member-left _ q.done l.more (subst (λ x. Member (entry (length before) s d.work (printed_line r.bag d.found)) x.done) (sym d.is) (member-right _ r.done (entry (length before) s d.work (printed_line r.bag d.found) ∷ []) (inl refl))))

    ordered-more : (new : List DoneStep) → done_at (length before) k.done ≡ new → in_order (length (before ++ s ∷ [])) k.done ≡ r.done ++ new
    ordered-more new e = ap (λ n. in_order n k.done) (one-longer before s) ∙ ap (λ x. x ++ done_at (length before) k.done) h.ordered ∙ ap (λ x. r.done ++ x) e

    now-done : (d : DoesNow p cap room b before s r q) → done_at (length before) k.done ≡ entry (length before) s d.work (printed_line r.bag d.found) ∷ []
    now-done d =
        ap (done_at (length before)) (l.is ∙ ap (λ x. x.done ++ l.more) d.is ∙ append_assoc r.done (entry (length before) s d.work (printed_line r.bag d.found) ∷ []) l.more)
        ∙ one-at-end (length before) r.done (entry (length before) s d.work (printed_line r.bag d.found)) l.more h.below refl

    none-now : LeavesOut b before s r q → done_at (length before) k.done ≡ []
    none-now n = none-at (length before) k.done (go (is_done (length before) k.done) refl)
      where
        clash : (d : DoneStep) → length before ≡ d.index → Member d q.done ⊎ Member d l.more → ⊥
        clash d e (inl m) = omega (arith, h.below d (subst (λ x. Member d x.done) n.is m), e)
        clash d e (inr m) = omega (arith, l.from d m, e, one-longer before s)

        go : (c : Bool) → is_done (length before) k.done ≡ c → c ≡ false
        go false e = refl
        go true e = let d = done-entry (length before) k.done e in absurd (clash d.0 d.1.1 (member-split d.0 q.done l.more (subst (λ x. Member d.0 x) l.is d.1.0)))

    new-does : DoesNow p cap room b before s r q → Walked (before ++ s ∷ []) q
    new-does d = subst (Walked (before ++ s ∷ [])) (sym d.is) (record {
      replays = one_more h.replays (record { before = before; step = s; after = after; log = log; due = d.due; found = d.found; allowed = d.allowed; room = room; work = d.work; works = d.works; is = refl });
      kept = kept-more b ss k.done fresh r h.kept before s after log (due-parts b r.done before s d.due) d.found d.work d.allowed (there d);
      below = λ e m. low e (member-split e r.done (entry (length before) s d.work (printed_line r.bag d.found) ∷ []) m);
      one = λ e f m n i. same e f i (member-split e r.done (entry (length before) s d.work (printed_line r.bag d.found) ∷ []) m) (member-split f r.done (entry (length before) s d.work (printed_line r.bag d.found) ∷ []) n);
      ordered = ordered-more (entry (length before) s d.work (printed_line r.bag d.found) ∷ []) (now-done d);
      tries = new-tries;
    })
      where
        low : (e : DoneStep) → Member e r.done ⊎ Member e (entry (length before) s d.work (printed_line r.bag d.found) ∷ []) → e.index < length (before ++ s ∷ [])
        low e (inl m) = omega (arith, h.below e m, one-longer before s)
        low e (inr (inl f)) = omega (arith, ap (λ x. x.index) f, one-longer before s)
        low e (inr (inr m)) = absurd m

        same : (e f : DoneStep) → e.index ≡ f.index → Member e r.done ⊎ Member e (entry (length before) s d.work (printed_line r.bag d.found) ∷ []) → Member f r.done ⊎ Member f (entry (length before) s d.work (printed_line r.bag d.found) ∷ []) → e ≡ f
        same e f i (inl m) (inl n) = h.one e f m n i
        same e f i (inl m) (inr (inl g)) = absurd (omega (arith, h.below e m, i, ap (λ x. x.index) g))
        same e f i (inr (inl g)) (inl n) = absurd (omega (arith, h.below f n, i, ap (λ x. x.index) g))
        same e f i (inr (inl g)) (inr (inl j)) = g ∙ sym j
        same e f i (inl m) (inr (inr n)) = absurd n
        same e f i (inr (inl g)) (inr (inr n)) = absurd n
        same e f i (inr (inr m)) n = absurd m

    pub walked-more : Walked (before ++ s ∷ []) q
    walked-more = go how
      where
        go : DoesNow p cap room b before s r q ⊎ LeavesOut b before s r q → Walked (before ++ s ∷ []) q
        go (inl d) = new-does d
        go (inr n) = subst (Walked (before ++ s ∷ [])) (sym n.is) (record { replays = h.replays; kept = h.kept; below = λ e m. omega (arith, h.below e m, one-longer before s); one = h.one; ordered = ordered-more [] (none-now n) ∙ append_nothing r.done; tries = new-tries })

  walked-on : (fresh : AreDistinct (ids (universe b k.done))) (before after : List Step) (r : Replay) → ss ≡ before ++ after → Walked before r → walk_from p cap room b before after r ≡ Some k → Walked ss k
  walked-on fresh before [] r e h f = subst (λ x. Walked x k) (sym (e ∙ append_nothing before)) (subst (Walked before) (inside f) h)
    where
      inside : Some r ≡ Some k → r ≡ k
      inside f = cc
  walked-on fresh before (s ∷ after) r e h f = go (λ q. walked-on fresh (before ++ s ∷ []) after q (e ∙ sym (append_assoc before (s ∷ []) after))) (after_try p cap room b before s r) refl f
    where
      go : ((q : Replay) → Walked (before ++ s ∷ []) q → walk_from p cap room b (before ++ s ∷ []) after q ≡ Some k → Walked ss k)
          → (o : Option Replay) → after_try p cap room b before s r ≡ o → option_and_then (λ q. walk_from p cap room b (before ++ s ∷ []) after q) o ≡ Some k → Walked ss k
      go next None t g = cc
      go next (Some q) t g = next q (walked-more fresh before s after e r q h t (later p cap room b k (before ++ s ∷ []) after q g)) g

  -- after a whole walk
  pub walked : AreDistinct (ids (universe b k.done)) → walk p cap room b ss ≡ Some k → Walked ss k
  walked fresh e = walked-on fresh [] ss (first_replay b) refl walked-start e
