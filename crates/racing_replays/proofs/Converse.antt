-- What a replay did tells what the log is.
use Rattle.std.proofs.Common.{◌≡◌, ◌<◌, ℕ, zero, suc, Bool, true, false, List, [], ◌∷◌, ◌++◌, length, refl, ap, sym, ◌∙◌, subst, arith, inl, inr, append_assoc, length-append}
use Rattle.std.specs.Prelude.{◌⊎◌, Option, Some, None, option_and_then, eqb}
use Rattle.std.proofs.lemmas.Bool.{eqb-true, eq-eqb}
use Rattle.calculus.specs.Log.{Step}
use Rattle.calculus.specs.Steps.{Meeting, meeting, printed_line}
use Rattle.calculus.specs.Runs.{Deploy, Work, Leads}
use Rattle.calculus.proofs.Members.{Member, member-split, member-left, member-right}
use Rattle.events.proofs.Counts.{ids, AreDistinct}
use Rattle.events.proofs.EventFollowing.{append_nothing}
use Rattle.replays.specs.Replays.{StopsAt}
use Rattle.racing_replays.specs.Replaying.{DoneStep, Replay, first_replay, done_steps, is_done, after_try, walk_from, walk}
use Rattle.racing_replays.specs.Laws.{first_bag, state_of, Agree, AreAllDone, IsFirstLeft, LeadsTo, ReplaysDecide}
use Rattle.racing_replays.proofs.Ledger.{done-entry, entry-done}
use Rattle.racing_replays.proofs.Due.{due-whole}
use Rattle.racing_replays.proofs.Keeping.{universe, Kept}
use Rattle.racing_replays.proofs.Doing.{entry, done-still}
use Rattle.racing_replays.proofs.Walking.{DoesNow, LeavesOut, tried-how, Later, later, one-longer}
use Rattle.racing_replays.proofs.Tries.{Walked, walked-start, walked-more}
use Rattle.racing_replays.proofs.Agreeing.{fresh-rows, full-agrees, walk-tries}
use Rattle.racing_replays.proofs.Confluent.{kept-all}
use Rattle.racing_replays.proofs.Coming.{comes-to}
use Rattle.racing_replays.proofs.Legal.{each-more, replays_are_legal, Filled, due-next}
use Rattle.racing_replays.proofs.Answers.{done-moved, left-moved}

pub more-filled : (r : Replay) (n : ℕ) (d : DoneStep) → d.index ≡ n → Filled n r → (j : ℕ) → j < suc n → is_done j (r.done ++ d ∷ []) ≡ true
more-filled r n d e f j l = go (eqb j n) refl
  where
    less : eqb j n ≡ false → j < n
    less z = lower (λ k. no (eq-eqb j n k))
      where
        no : eqb j n ≡ true → ⊥
        no y = cc

        lower : (j ≡ n → ⊥) → j < n
        lower k = omega arith

    go : (c : Bool) → eqb j n ≡ c → is_done j (r.done ++ d ∷ []) ≡ true
    go true z = subst (λ m. is_done m (r.done ++ d ∷ []) ≡ true) (e ∙ sym (eqb-true j n z)) (entry-done d (r.done ++ d ∷ []) (member-right d r.done (d ∷ []) (inl refl)))
    go false z = done-still j r.done d (f j (less z))

-- a log about a step
pub record Split (ss : List Step) (i : ℕ) : Type 0 where
  pub before : List Step
  pub step : Step
  pub after : List Step
  pub is : ss ≡ before ++ step ∷ after
  pub place : length before ≡ i

pub split-at : (ss : List Step) (i : ℕ) → i < length ss → Split ss i
split-at [] i h = absurd (omega (arith, h))
split-at (s ∷ ss) zero h = record { before = []; step = s; after = ss; is = refl; place = refl }
split-at (s ∷ ss) (suc i) h = let f = split-at ss i (omega (arith, h)) in record { before = s ∷ f.before; step = f.step; after = f.after; is = ap (λ l. s ∷ l) f.is; place = ap suc f.place }

module _ (deploy : Deploy) (room : ℕ) (w : Work) (ss : List Step) (k : Replay) (fresh : AreDistinct (ids (universe (first_bag deploy.rows w) k.done))) where
  -- the walk has done just these steps
  pub record HasDone (before after : List Step) : Type 0 where
    pub at : Replay
    pub walked : Walked deploy.prices deploy.limit room (first_bag deploy.rows w) ss k before at
    pub goes_on : walk_from deploy.prices deploy.limit room (first_bag deploy.rows w) before after at ≡ Some k
    pub makes : done_steps at.done ≡ before
    pub filled : Filled (length before) at

  -- a step that the walk leaves out is never done
  left-never : (before : List Step) (s : Step) (after : List Step) (h : HasDone before (s ∷ after)) (q : Replay) → Later (length (before ++ s ∷ [])) q k → LeavesOut (first_bag deploy.rows w) before s h.at q → is_done (length before) k.done ≡ true → ⊥
  left-never before s after h q l n e =
      let d = done-entry (length before) k.done e in
      clash d.0 d.1.1 (member-split d.0 q.done l.more (subst (λ x. Member d.0 x) l.is d.1.0))
    where
      clash : (d : DoneStep) → length before ≡ d.index → Member d q.done ⊎ Member d l.more → ⊥
      clash d j (inl m) = omega (arith, h.walked.below d (subst (λ x. Member d x.done) n.is m), j)
      clash d j (inr m) = omega (arith, l.from d m, j, one-longer before s)

  has-more : (before : List Step) (s : Step) (after : List Step) → ss ≡ before ++ s ∷ after → HasDone before (s ∷ after) → is_done (length before) k.done ≡ true → HasDone (before ++ s ∷ []) after
  has-more before s after log h e = walks (after_try deploy.prices deploy.limit room (first_bag deploy.rows w) before s h.at) refl h.goes_on
    where
      ends : (q : Replay) → after_try deploy.prices deploy.limit room (first_bag deploy.rows w) before s h.at ≡ Some q → walk_from deploy.prices deploy.limit room (first_bag deploy.rows w) (before ++ s ∷ []) after q ≡ Some k
          → DoesNow deploy.prices deploy.limit room (first_bag deploy.rows w) before s h.at q ⊎ LeavesOut (first_bag deploy.rows w) before s h.at q → HasDone (before ++ s ∷ []) after
      ends q t o (inl d) = record {
        at = q;
        walked = walked-more deploy.prices deploy.limit room (first_bag deploy.rows w) ss k fresh before s after log h.at q h.walked t (later deploy.prices deploy.limit room (first_bag deploy.rows w) k (before ++ s ∷ []) after q o);
        goes_on = o;
        makes = ap (λ x. done_steps x.done) d.is ∙ each-more (λ x. x.step) h.at.done (entry (length before) s d.work (printed_line h.at.bag d.found)) ∙ ap (λ l. l ++ s ∷ []) h.makes;
        filled = λ j l. subst (λ x. is_done j x.done ≡ true) (sym d.is) (more-filled h.at (length before) (entry (length before) s d.work (printed_line h.at.bag d.found)) refl h.filled j (omega (arith, l, one-longer before s)));
      }
      ends q t o (inr n) = absurd (left-never before s after h q (later deploy.prices deploy.limit room (first_bag deploy.rows w) k (before ++ s ∷ []) after q o) n e)

      walks : (o : Option Replay) → after_try deploy.prices deploy.limit room (first_bag deploy.rows w) before s h.at ≡ o → option_and_then (λ q. walk_from deploy.prices deploy.limit room (first_bag deploy.rows w) (before ++ s ∷ []) after q) o ≡ Some k → HasDone (before ++ s ∷ []) after
      walks None t o = cc
      walks (Some q) t o = ends q t o (tried-how deploy.prices deploy.limit room (first_bag deploy.rows w) before s h.at q t)

  pub has-all : (before xs ys : List Step) → ss ≡ before ++ (xs ++ ys) → HasDone before (xs ++ ys) → Filled (length (before ++ xs)) k → HasDone (before ++ xs) ys
  has-all before [] ys log h f = subst (λ l. HasDone l ys) (sym (append_nothing before)) h
  has-all before (s ∷ xs) ys log h f = subst (λ l. HasDone l ys) (append_assoc before (s ∷ []) xs)
      (has-all (before ++ s ∷ []) xs ys (log ∙ sym (append_assoc before (s ∷ []) (xs ++ ys)))
      (has-more before s (xs ++ ys) log h (f (length before) (omega (arith, length-append before (s ∷ xs)))))
      (subst (λ l. Filled (length l) k) (sym (append_assoc before (s ∷ []) xs)) f))

  pub has-none : walk deploy.prices deploy.limit room (first_bag deploy.rows w) ss ≡ Some k → HasDone [] ss
  has-none e = record { at = first_replay (first_bag deploy.rows w); walked = walked-start deploy.prices deploy.limit room (first_bag deploy.rows w) ss k; goes_on = e; makes = refl; filled = λ j l. absurd (omega (arith, l)) }

  -- a step that is not done after just those before it is not allowed
  pub not-allowed : (before : List Step) (s : Step) (after : List Step) (h : HasDone before (s ∷ after)) → is_done (length before) k.done ≡ false → meeting h.at.bag (done_steps h.at.done) s ≡ None
  not-allowed before s after h e = go (meeting h.at.bag (done_steps h.at.done) s) refl
    where
      no-some : {x : Meeting} → Some x ≡ None → ⊥
      no-some e = cc e

      ends : (m : Meeting) → meeting h.at.bag (done_steps h.at.done) s ≡ Some m → (q : Replay) → Later (length (before ++ s ∷ [])) q k → DoesNow deploy.prices deploy.limit room (first_bag deploy.rows w) before s h.at q ⊎ LeavesOut (first_bag deploy.rows w) before s h.at q → ⊥
      ends m f q l (inl d) = clash (entry-done (entry (length before) s d.work (printed_line h.at.bag d.found)) k.done
          (subst (λ x. Member (entry (length before) s d.work (printed_line h.at.bag d.found)) x) (sym l.is) (member-left _ q.done l.more (subst (λ x. Member (entry (length before) s d.work (printed_line h.at.bag d.found)) x.done) (sym d.is) (member-right _ h.at.done _ (inl refl))))))
        where
          clash : is_done (length before) k.done ≡ true → ⊥
          clash g = cc
      ends m f q l (inr n) = no-some (sym f ∙ n.may_not (due-whole (first_bag deploy.rows w) h.at.done before s (due-next (first_bag deploy.rows w) ss k.done fresh h.at h.walked.kept before s h.walked.below h.filled m f)))

      walks : (m : Meeting) → meeting h.at.bag (done_steps h.at.done) s ≡ Some m → (o : Option Replay) → after_try deploy.prices deploy.limit room (first_bag deploy.rows w) before s h.at ≡ o → option_and_then (λ q. walk_from deploy.prices deploy.limit room (first_bag deploy.rows w) (before ++ s ∷ []) after q) o ≡ Some k → ⊥
      walks m f None t o = cc
      walks m f (Some q) t o = ends m f q (later deploy.prices deploy.limit room (first_bag deploy.rows w) k (before ++ s ∷ []) after q o) (tried-how deploy.prices deploy.limit room (first_bag deploy.rows w) before s h.at q t)

      go : (o : Option Meeting) → meeting h.at.bag (done_steps h.at.done) s ≡ o → o ≡ None
      go None f = refl
      go (Some m) f = absurd (walks m f (after_try deploy.prices deploy.limit room (first_bag deploy.rows w) before s h.at) refl h.goes_on)

pub replays_decide : ReplaysDecide
replays_decide deploy w ss k r u h f = (all, first)
  where
    d : AreDistinct (ids (universe (first_bag deploy.rows w) k.done))
    d = fresh-rows deploy.rows w k.done h.fresh

    agree : Agree ss r k
    agree = full-agrees deploy w ss k r h f

    begins : HasDone deploy h.walks.0 w ss k d [] ss
    begins = has-none deploy h.walks.0 w ss k d h.walks.1

    -- the walk's state after just these steps
    leads : (before after : List Step) (g : HasDone deploy h.walks.0 w ss k d before after) → Leads deploy before (state_of w g.at)
    leads before after g = subst (λ l. Leads deploy l (state_of w g.at)) g.makes (replays_are_legal deploy w ss g.at u g.walked.replays)

    wk : Walked deploy.prices deploy.limit h.walks.0 (first_bag deploy.rows w) ss k ss k
    wk = walk-tries deploy w ss k h

    kr : Kept (first_bag deploy.rows w) ss k.done r
    kr = kept-all deploy.prices deploy.limit h.walks.0 (first_bag deploy.rows w) ss k d wk r f.replays

    all : AreAllDone ss r → LeadsTo deploy w ss r
    all full = record {
      state = state_of w k;
      leads = subst (λ x. Leads deploy ss (state_of w x)) at_end (leads ss [] ends);
      steps = ap (λ x. done_steps x.done) (sym at_end) ∙ ends.makes;
      comes = comes-to deploy w ss k r h f;
    }
      where
        ends : HasDone deploy h.walks.0 w ss k d ss []
        ends = has-all deploy h.walks.0 w ss k d [] ss [] (sym (append_nothing ss)) (subst (HasDone deploy h.walks.0 w ss k d []) (sym (append_nothing ss)) begins)
            (λ j l. done-moved j r.done k.done agree.same_done (full j l))

        inside : {x y : Replay} → Some x ≡ Some y → x ≡ y
        inside e = cc e

        at_end : ends.at ≡ k
        at_end = inside ends.goes_on

    first : (i : ℕ) → i < length ss → IsFirstLeft i r → StopsAt deploy ss i
    first i l g = record {
      before = at.before;
      step = at.step;
      after = at.after;
      is = at.is;
      place = at.place;
      state = state_of w ends.at;
      leads = leads at.before (at.step ∷ at.after) ends;
      stops = not-allowed deploy h.walks.0 w ss k d at.before at.step at.after ends (subst (λ n. is_done n k.done ≡ false) (sym at.place) (left-moved i r.done k.done agree.same_done g.left));
    }
      where
        at : Split ss i
        at = split-at ss i l

        ends : HasDone deploy h.walks.0 w ss k d at.before (at.step ∷ at.after)
        ends = has-all deploy h.walks.0 w ss k d [] at.before (at.step ∷ at.after) at.is (subst (HasDone deploy h.walks.0 w ss k d []) at.is begins)
            (λ j m. done-moved j r.done k.done agree.same_done (g.least j (subst (λ n. j < n) at.place m)))
