-- What holds along an allowed log.
use Rattle.std.proofs.Common.{◌≡◌, ℕ, zero, suc, List, [], ◌∷◌, ◌++◌, map as each, IsPermutation, refl, sym, ap, subst, ◌∙◌, inl, inr, Some}
use Rattle.std.specs.Prelude.{◌⊎◌, Bool, true, length, None, flat_map, slice_get}
use Rattle.calculus.specs.Log.{Step}
use Rattle.calculus.specs.Rows.{Row}
use Rattle.calculus.specs.Unfolding.{rows_of}
use Rattle.calculus.specs.Steps.{standing}
use Rattle.calculus.specs.Runs.{Deploy, Work, work_products}
use Rattle.calculus.proofs.Members.{Member, member-split, member-left, member-right}
use Rattle.calculus.proofs.Permutations.{unmoved}
use Rattle.events.specs.Events.{AreFresh}
use Rattle.events.proofs.EventStanding.{built_ins}
use Rattle.hub_rule.specs.Counts.{numbered, things_of}
use Rattle.hub_rule.specs.Meaning.{Meaning, offered, Pending, Allowed, ArePending}
use Rattle.hub_rule.proofs.Offers.{offered_more, things_both, things_numbered}
use Rattle.racing_replays.specs.Racing.{racing_start, no_event}
use Rattle.racing_replays.specs.Laws.{first_bag}
use Rattle.hub_scenes.specs.Spaces.{SeenRow, NewRow, IndexTry, Job, arrive, try_index, Part, Space, standing_row, new_row, first_space, steps_did}
use Rattle.hub_scenes.specs.Entries.{Deed, arrives, does, idles, Entry, job_of, offers_of, space_after, did_by_try}
use Rattle.hub_scenes.specs.ReplayScene.{IsReached, IsEvent, IsFreshSpace, Opens, replay}
use Rattle.hub_scenes.proofs.Basics.{each-both, each-id, image-of}
use Rattle.hub_scenes.proofs.Good.{ComesBy, Good, GoodTry}
use Rattle.hub_scenes.proofs.Fresh.{fewer-fresh, fresh-reached}
use Rattle.hub_scenes.proofs.Logs.{get_either, now, now_more, along}
use Rattle.hub_scenes.proofs.Pending.{pending-first, Taken, pending-more, its-split}
use Rattle.hub_scenes.proofs.Steps.{arrivals_of, tries_of, arrivals-arrive, tries-arrive, work-stays, reached-after, good-after, new-tries, tries-stay}
use Rattle.hub_scenes.proofs.Jobs.{arrivals-after, tries-after}

pub get-member : {A : Type 0} (xs : List A) (i : ℕ) (a : A) → slice_get xs i ≡ Some a → Member a xs
get-member [] i a e = cc
get-member (x ∷ xs) zero a e = inl (let q : x ≡ a = cc e in sym q)
get-member (x ∷ xs) (suc i) a e = inr (get-member xs i a e)

-- the space before the first entry is good
module _ (deploy : Deploy) (w : Work) where
  first-good : Good (first_bag deploy.rows w) (first_space deploy w)
  first-good = record {
    counts = λ q m. (let r = stood q (member-split q (each standing_row deploy.rows) (each standing_row built_ins) m) in ap (λ z. z.done) r.1.1);
    origin = λ q m. (let r = stood q (member-split q (each standing_row deploy.rows) (each standing_row built_ins) m) in subst (λ z. ComesBy (first_bag deploy.rows w) [] z.row z.from) (sym r.1.1) r.1.0);
    origins = λ a m. (let r = image-of (new_row None) a (rows_of (work_products w)) m in
        subst (λ z. ComesBy (first_bag deploy.rows w) [] z.row z.from) (sym r.1.1) (member-right r.0 deploy.rows _ (inr (inr r.1.0))));
  }
    where
      stood : (q : SeenRow) → Member q (each standing_row deploy.rows) ⊎ Member q (each standing_row built_ins) → (r : Row) × (Member r (standing (first_bag deploy.rows w)) × q ≡ standing_row r)
      stood q (inl m) = let r = image-of standing_row q deploy.rows m in (r.0, (member-left r.0 deploy.rows _ r.1.0, r.1.1))
      stood q (inr m) = let r = image-of standing_row q built_ins m in (r.0, (member-right r.0 deploy.rows _ (member-left r.0 built_ins (rows_of (work_products w)) r.1.0), r.1.1))

-- digests that are fresh after an entry are fresh before it
pub fresh-before : (deploy : Deploy) (ss : List Step) (s : Space) (touched : ℕ → Bool) (d : Deed) → IsFreshSpace deploy ss (space_after s touched d) → IsFreshSpace deploy ss s
fresh-before deploy ss s touched (arrives a next) fr = fr
fresh-before deploy ss s touched (does t m next) fr = fewer-fresh deploy (steps_did s.done) (m.step ∷ []) (subst (AreFresh deploy) (each-both (λ d. d.step) s.done (did_by_try t m ∷ [])) fr)
fresh-before deploy ss s touched (idles t) fr = fr

module _ (deploy : Deploy) (ss : List Step) (st : Space) (works : List Job) (h : Opens deploy ss st works) where
  abbrev pub game : Meaning Space Entry Part Job
  game = replay deploy ss

  abbrev pub space : List (ℕ × Entry) → Space
  space log = now game st works log

  -- what holds after a log
  pub record Holding (s : Space) (log : List (ℕ × Entry)) : Type 0 where
    pub work : s.work ≡ st.work
    pub reached : IsReached deploy ss s
    pub good : Good (first_bag deploy.rows s.work) s
    pub tries : (i : ℕ) (y : IndexTry) → slice_get (offered (replay deploy ss) works log) i ≡ Some (try_index y) → GoodTry (first_bag deploy.rows s.work) ss s y
    pub pending : List (ℕ × Job)
    pub are : ArePending (replay deploy ss) works log pending
    pub arrivals : IsPermutation (flat_map arrivals_of (things_of pending)) s.arriving
    pub trying : IsPermutation (flat_map tries_of (things_of pending)) s.tries

  all-end : (e : Entry) → true ≡ true
  all-end e = refl

  no-try : (w : Work) (i : ℕ) (y : IndexTry) → slice_get (each (λ r. arrive (new_row None r)) (rows_of (work_products w))) i ≡ Some (try_index y) → ⊥
  no-try w i y e = let r = image-of (λ r. arrive (new_row None r)) (try_index y) (rows_of (work_products w)) (get-member _ i (try_index y) e) in no r.1.1
    where
      no : {a : NewRow} → try_index y ≡ arrive a → ⊥
      no e = cc e

  holding-first : Holding st []
  holding-first = subst (λ s. Holding s []) (sym h.is) (record {
    work = ap (λ s. s.work) (sym h.is);
    reached = record {
      begins = h.begins;
      racing = racing_start deploy.rows h.work;
      races = no_event;
      is = record { built = refl; store = each-id (λ q. q.row) standing_row (λ r. refl) deploy.rows; arriving = each-id (λ a. a.row) (new_row None) (λ r. refl) (rows_of (work_products h.work)); tries = refl; done = refl };
    };
    good = first-good deploy h.work;
    tries = λ i y e. absurd (no-try h.work i y (subst (λ l. slice_get l i ≡ Some (try_index y)) h.are e));
    pending = numbered 0 works;
    are = pending-first (replay deploy ss) st works all-end;
    arrivals = subst (λ l. IsPermutation l (each (new_row None) (rows_of (work_products h.work)))) (sym (ap (flat_map arrivals_of) (things_numbered 0 works ∙ h.are) ∙ arrivals-arrive (new_row None) (rows_of (work_products h.work)))) (unmoved _);
    trying = subst (λ l. IsPermutation l []) (sym (ap (flat_map tries_of) (things_numbered 0 works ∙ h.are) ∙ tries-arrive (new_row None) (rows_of (work_products h.work)))) (unmoved []);
  })

  -- an entry that follows
  module _ (s : Space) (log : List (ℕ × Entry)) (q : ℕ × Entry) (hold : Holding s log) (fr : IsFreshSpace deploy ss s) (pend : Pending (replay deploy ss) works log q.0 (job_of q.1.deed)) (i : IsEvent deploy ss s q.1.shards q.1.deed) where
    stays : (space_after s q.1.shards q.1.deed).work ≡ s.work
    stays = work-stays s q.1.shards q.1.deed

    old-tries : (j : ℕ) (y : IndexTry) → slice_get (offered (replay deploy ss) works (log ++ q ∷ [])) j ≡ Some (try_index y) → GoodTry (first_bag deploy.rows s.work) ss (space_after s q.1.shards q.1.deed) y
    old-tries j y e = go (get_either (offered (replay deploy ss) works log) (offers_of q.1.deed) j (try_index y) (ap (λ l. slice_get l j) (sym (offered_more (replay deploy ss) works log q.0 q.1)) ∙ e))
      where
        go : (slice_get (offered (replay deploy ss) works log) j ≡ Some (try_index y)) ⊎ ((n : ℕ) × (slice_get (offers_of q.1.deed) n ≡ Some (try_index y))) → GoodTry (first_bag deploy.rows s.work) ss (space_after s q.1.shards q.1.deed) y
        go (inl g) = tries-stay deploy ss s q.1.shards (first_bag deploy.rows s.work) q.1.deed y (hold.tries j y g)
        go (inr g) = new-tries deploy ss s q.1.shards fr hold.good q.1.deed i y (get-member (offers_of q.1.deed) g.0 (try_index y) g.1)

    out : Taken (replay deploy ss) st works all-end log q hold.pending
    out = pending-more (replay deploy ss) st works all-end log q hold.pending hold.are pend

    before-is : things_of hold.pending ≡ things_of out.pre ++ job_of q.1.deed ∷ things_of out.post
    before-is = ap things_of out.is ∙ things_both out.pre ((q.0, job_of q.1.deed) ∷ out.post)

    abbrev new : List (ℕ × Job)
    new = numbered (length (offered (replay deploy ss) works log)) (offers_of q.1.deed)

    after-is : things_of ((out.pre ++ out.post) ++ numbered (length (offered (replay deploy ss) works log)) (offers_of q.1.deed)) ≡ (things_of out.pre ++ things_of out.post) ++ offers_of q.1.deed
    after-is = things_both (out.pre ++ out.post) new ∙ ap (λ l. l ++ things_of new) (things_both out.pre out.post) ∙ ap (λ l. (things_of out.pre ++ things_of out.post) ++ l) (things_numbered (length (offered (replay deploy ss) works log)) (offers_of q.1.deed))

    pub holding-more : Holding (space_after s q.1.shards q.1.deed) (log ++ q ∷ [])
    holding-more = record {
      work = stays ∙ hold.work;
      reached = reached-after deploy ss s q.1.shards q.1.deed i;
      good = subst (λ w. Good (first_bag deploy.rows w) (space_after s q.1.shards q.1.deed)) (sym stays) (good-after deploy ss s q.1.shards fr hold.good q.1.deed i);
      tries = λ j y e. subst (λ w. GoodTry (first_bag deploy.rows w) ss (space_after s q.1.shards q.1.deed) y) (sym stays) (old-tries j y e);
      pending = (out.pre ++ out.post) ++ numbered (length (offered (replay deploy ss) works log)) (offers_of q.1.deed);
      are = out.later;
      arrivals = subst (λ l. IsPermutation (flat_map arrivals_of l) (space_after s q.1.shards q.1.deed).arriving) (sym after-is)
          (arrivals-after deploy ss s hold.reached (fresh-reached deploy ss s hold.reached fr) hold.good q.1.shards (things_of out.pre) (things_of out.post) q.1.deed (subst (λ l. IsPermutation (flat_map arrivals_of l) s.arriving) before-is hold.arrivals));
      trying = subst (λ l. IsPermutation (flat_map tries_of l) (space_after s q.1.shards q.1.deed).tries) (sym after-is)
          (tries-after deploy ss s hold.reached (fresh-reached deploy ss s hold.reached fr) hold.good q.1.shards (things_of out.pre) (things_of out.post) q.1.deed (subst (λ l. IsPermutation (flat_map tries_of l) s.tries) before-is hold.trying));
    }

  pub holding : (log : List (ℕ × Entry)) → Allowed (replay deploy ss) st works log → IsFreshSpace deploy ss (now (replay deploy ss) st works log) → Holding (now (replay deploy ss) st works log) log
  holding log a = along (replay deploy ss) st works (λ l. IsFreshSpace deploy ss (now (replay deploy ss) st works l) → Holding (now (replay deploy ss) st works l) l) log a (λ fr. holding-first)
      (λ before later q e b may s. subst (λ x. IsFreshSpace deploy ss x → Holding x (before ++ q ∷ [])) (sym (now_more (replay deploy ss) st works before q))
      (λ fr. let old = fresh-before deploy ss (now (replay deploy ss) st works before) q.1.shards q.1.deed fr in
      holding-more (now (replay deploy ss) st works before) before q (s old) old may.0 (may.1 old)))

  -- a pending job is one of those that wait
  pub its-job : (s : Space) (log : List (ℕ × Entry)) (hold : Holding s log) (i : ℕ) (w : Job) → Pending (replay deploy ss) works log i w → Member w (things_of hold.pending)
  its-job s log hold i w pend =
      let a = its-split (replay deploy ss) st works all-end log hold.pending hold.are i w pend in
      subst (λ l. Member w l) (sym (ap things_of a.is ∙ things_both a.pre ((i, w) ∷ a.post))) (member-right w (things_of a.pre) (w ∷ things_of a.post) (inl refl))
