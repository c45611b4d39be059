-- Replays against legal lists of steps.
use Rattle.std.proofs.Common.{◌≡◌, ◌<◌, ℕ, ◌+◌, Bool, true, false, List, [], ◌∷◌, ◌++◌, length, map as each, refl, ap, sym, ◌∙◌, subst, arith, inl, inr, append_assoc, length-append}
use Rattle.std.specs.Prelude.{◌⊎◌, Option, Some, None, option_map, option_and_then, eqb}
use Rattle.std.proofs.lemmas.Bool.{eqb-true, eq-eqb}
use Rattle.calculus.specs.Outcome.{capped}
use Rattle.calculus.specs.Log.{Step}
use Rattle.calculus.specs.Rows.{Row}
use Rattle.calculus.specs.Unfolding.{unfold_in, Unfolds}
use Rattle.calculus.specs.Steps.{Bag, Meeting, standing, is_one_of, meeting, printed_line}
use Rattle.calculus.specs.Runs.{Deploy, source_seed, Work, State, body_work, moved, step_from, steps_from, begun, Leads}
use Rattle.calculus.proofs.States.{one_unfolding, body_keeps}
use Rattle.calculus.proofs.Members.{Member, member-split, member-left, member-right, every-at}
use Rattle.events.proofs.Counts.{ids, AreDistinct, member-times, times-one_of}
use Rattle.events.proofs.Meetings.{MadeBy, made_by}
use Rattle.events.proofs.Spent.{row-of-id}
use Rattle.events.proofs.EventFollowing.{append_nothing}
use Rattle.events.proofs.Legal.{leads-none, leads-more}
use Rattle.racing_replays.specs.Replaying.{DoneStep, Replay, first_replay, done_steps, rows_by, is_done, names, ids_before, after_step, none_yet, one_more, after_try, walk_from, walk}
use Rattle.racing_replays.specs.Laws.{first_bag, state_of, ReplaysAreLegal}
use Rattle.racing_replays.proofs.Ledger.{done-entry, entry-done}
use Rattle.racing_replays.proofs.Due.{Due, due-whole, GivenBy, by-given, all-from, all_done-from}
use Rattle.racing_replays.proofs.Keeping.{offers, universe, Kept}
use Rattle.racing_replays.proofs.Transfer.{flat-member, bag-distinct, in-universe}
use Rattle.racing_replays.proofs.Doing.{entry, done-still, flat-more}
use Rattle.racing_replays.proofs.Walking.{DoesNow, LeavesOut, tried-how, Later, later, one-longer}
use Rattle.racing_replays.proofs.Tries.{Walked, walked-start, walked-more}

pub each-more : {A B : Type 0} (f : A → B) (xs : List A) (x : A) → each f (xs ++ x ∷ []) ≡ each f xs ++ f x ∷ []
each-more f [] x = refl
each-more f (y ∷ xs) x = ap (λ l. f y ∷ l) (each-more f xs x)

-- the state after one more step
pub state-more : (w : Work) (r : Replay) (i : ℕ) (s : Step) (m : Meeting) (v : Work) → moved (state_of w r) s m v ≡ state_of w (after_step r i s m v)
state-more w r i s m v = let e : DoneStep = entry i s v (printed_line r.bag m) in cc (each-more (λ d. d.step) r.done e, each-more (λ d. d.work) r.done e, flat-more (λ d. d.printed) r.done e)

pub replays_are_legal : ReplaysAreLegal
replays_are_legal deploy w ss _ u none_yet = leads-none deploy w u
replays_are_legal deploy w ss q u (one_more {r} rs d) =
    let next = leads-more deploy (done_steps r.done) (state_of w r) d.step d.found d.room d.work (replays_are_legal deploy w ss r u rs) d.allowed d.works in
    subst (λ x. Leads deploy (done_steps x.done) (state_of w x)) (sym d.is)
    (subst (λ l. Leads deploy l (state_of w (after_step r (length d.before) d.step d.found d.work))) (sym (each-more (λ x. x.step) r.done (entry (length d.before) d.step d.work (printed_line r.bag d.found))))
    (subst (λ a. Leads deploy (done_steps r.done ++ d.step ∷ []) a) (state-more w r (length d.before) d.step d.found d.work) next))

-- a legal list goes on from the source's work
pub goes-on : (deploy : Deploy) (w : Work) (ss : List Step) (a : State) → Unfolds deploy.prices deploy.limit deploy.process (source_seed deploy) w
    → Leads deploy ss a → (room : ℕ) × (steps_from deploy.prices deploy.limit room (begun deploy.rows w) ss ≡ Some a)
goes-on deploy w ss a u h = (h.0, go (capped deploy.limit (unfold_in deploy.prices h.0 deploy.process (source_seed deploy))) refl h.1)
  where
    go : (o : Option Work) → capped deploy.limit (unfold_in deploy.prices h.0 deploy.process (source_seed deploy)) ≡ o → option_and_then (λ x. steps_from deploy.prices deploy.limit h.0 x ss) (option_map (begun deploy.rows) o) ≡ Some a → steps_from deploy.prices deploy.limit h.0 (begun deploy.rows w) ss ≡ Some a
    go None e f = cc
    go (Some v) e f =
        let same : v ≡ w = one_unfolding deploy.prices deploy.limit deploy.process (source_seed deploy) v w (h.0, e) u in
        subst (λ x. steps_from deploy.prices deploy.limit h.0 (begun deploy.rows x) ss ≡ Some a) same f

-- each step below an index is done
abbrev pub Filled : ℕ → Replay → Type 0
Filled n r = (j : ℕ) → j < n → is_done j r.done ≡ true

-- where each step below is done, it is the turn of a step that is allowed
pub due-next : (b : Bag) (ss : List Step) (ds : List DoneStep) (fresh : AreDistinct (ids (universe b ds))) (r : Replay) → Kept b ss ds r → (before : List Step) (s : Step)
    → ((d : DoneStep) → Member d r.done → d.index < length before) → Filled (length before) r → (m : Meeting) → meeting r.bag (done_steps r.done) s ≡ Some m → Due b r.done before s
due-next b ss ds fresh r k before s below filled m e = record {
  not_done = undone (is_done (length before) r.done) refl;
  given = all-from (names s) (ids_before b (length before) r.done) (λ x i. by-given b (length before) r.done x (giver x i));
  earlier = all_done-from r.done (names s) 0 before (λ mid u rest f a. filled (0 + length mid) (omega (arith, ap length f, length-append mid (u ∷ rest))));
}
  where
    undone : (c : Bool) → is_done (length before) r.done ≡ c → c ≡ false
    undone false f = refl
    undone true f = let d = done-entry (length before) r.done f in absurd (omega (arith, below d.0 d.1.0, d.1.1))

    how : MadeBy (standing r.bag) (done_steps r.done) s m
    how = made_by r.bag (done_steps r.done) s m (bag-distinct b ss ds fresh r k) e

    giver : (x : List ℕ) → is_one_of x (names s) ≡ true → GivenBy b (length before) r.done x
    giver x i = subst (GivenBy b (length before) r.done) (sym z.2) (go (member-split z.0 (standing b) (offers r.done) (in-universe b ss ds fresh r k z.0 (every-at _ how.taken z.0 how.there z.1))))
      where
        z : (y : Row) × Member y how.taken × (x ≡ y.id)
        z = row-of-id x how.taken (sym (ap (is_one_of x) how.ids) ∙ i)

        go : Member z.0 (standing b) ⊎ Member z.0 (offers r.done) → GivenBy b (length before) r.done z.0.id
        go (inl n) = inl (times-one_of z.0.id (ids (standing b)) (member-times z.0 (standing b) n))
        go (inr n) = let d = flat-member z.0 r.done n in inr (d.0, (d.1.0, (below d.0 d.1.0, times-one_of z.0.id (ids (rows_by d.0)) (member-times z.0 (rows_by d.0) d.1.1))))

module _ (deploy : Deploy) (room : ℕ) (w : Work) (ss : List Step) (k : Replay) (fresh : AreDistinct (ids (universe (first_bag deploy.rows w) k.done))) where
  -- the walk has come to this state after these steps, of which each is done
  pub record Reaches (before after : List Step) (a : State) : Type 0 where
    pub at : Replay
    pub walked : Walked deploy.prices deploy.limit room (first_bag deploy.rows w) ss k before at
    pub goes_on : walk_from deploy.prices deploy.limit room (first_bag deploy.rows w) before after at ≡ Some k
    pub state : state_of w at ≡ a
    pub filled : Filled (length before) at

  -- the next step of a legal list is done
  pub reach-more : (room2 : ℕ) (before : List Step) (s : Step) (after : List Step) → ss ≡ before ++ s ∷ after → (a c : State) → Reaches before (s ∷ after) a → step_from deploy.prices deploy.limit room2 a s ≡ Some c → Reaches (before ++ s ∷ []) after c
  reach-more room2 before s after log a c h e = meets (meeting h.at.bag (done_steps h.at.done) s) refl (subst (λ x. step_from deploy.prices deploy.limit room2 x s ≡ Some c) (sym h.state) e)
    where
      one-work : (m : Meeting) (x y : ℕ) (u v : Work) → body_work deploy.prices deploy.limit x s m ≡ Some u → body_work deploy.prices deploy.limit y s m ≡ Some v → u ≡ v
      one-work m x y u v f g = inside (sym (body_keeps deploy.prices deploy.limit x (x + y) (omega arith) s m u f) ∙ body_keeps deploy.prices deploy.limit y (x + y) (omega arith) s m v g)
        where
          inside : Some u ≡ Some v → u ≡ v
          inside e = cc

      ends : (m : Meeting) (v : Work) → meeting h.at.bag (done_steps h.at.done) s ≡ Some m → body_work deploy.prices deploy.limit room2 s m ≡ Some v → moved (state_of w h.at) s m v ≡ c
          → (q : Replay) → after_try deploy.prices deploy.limit room (first_bag deploy.rows w) before s h.at ≡ Some q → walk_from deploy.prices deploy.limit room (first_bag deploy.rows w) (before ++ s ∷ []) after q ≡ Some k → Reaches (before ++ s ∷ []) after c
      ends m v f g i q t o = go (tried-how deploy.prices deploy.limit room (first_bag deploy.rows w) before s h.at q t)
        where
          full : (d : DoesNow deploy.prices deploy.limit room (first_bag deploy.rows w) before s h.at q) (j : ℕ) → j < length (before ++ s ∷ []) → is_done j q.done ≡ true
          full d j l = subst (λ x. is_done j x.done ≡ true) (sym d.is) (here (eqb j (length before)) refl)
            where
              here : (y : Bool) → eqb j (length before) ≡ y → is_done j (h.at.done ++ entry (length before) s d.work (printed_line h.at.bag d.found) ∷ []) ≡ true
              here true z = subst (λ n. is_done n (h.at.done ++ entry (length before) s d.work (printed_line h.at.bag d.found) ∷ []) ≡ true) (sym (eqb-true j (length before) z))
                  (entry-done (entry (length before) s d.work (printed_line h.at.bag d.found)) (h.at.done ++ entry (length before) s d.work (printed_line h.at.bag d.found) ∷ []) (member-right _ h.at.done (entry (length before) s d.work (printed_line h.at.bag d.found) ∷ []) (inl refl)))
              here false z = done-still j h.at.done (entry (length before) s d.work (printed_line h.at.bag d.found)) (h.filled j (less z))
                where
                  less : eqb j (length before) ≡ false → j < length before
                  less z = lower (λ n. no (eq-eqb j (length before) n))
                    where
                      no : eqb j (length before) ≡ true → ⊥
                      no y = cc

                      lower : (j ≡ length before → ⊥) → j < length before
                      lower n = omega (arith, l, one-longer before s)

          go : DoesNow deploy.prices deploy.limit room (first_bag deploy.rows w) before s h.at q ⊎ LeavesOut (first_bag deploy.rows w) before s h.at q → Reaches (before ++ s ∷ []) after c
          go (inl d) =
              let same : d.found ≡ m = inside (sym d.allowed ∙ f) in
              let alike : d.work ≡ v = one-work m room room2 d.work v (subst (λ x. body_work deploy.prices deploy.limit room s x ≡ Some d.work) same d.works) g in
              record {
                at = q;
                walked = walked-more deploy.prices deploy.limit room (first_bag deploy.rows w) ss k fresh before s after log h.at q h.walked t (later deploy.prices deploy.limit room (first_bag deploy.rows w) k (before ++ s ∷ []) after q o);
                goes_on = o;
                state = ap (state_of w) d.is ∙ sym (state-more w h.at (length before) s d.found d.work) ∙ cc (same, alike) ∙ i;
                filled = full d;
              }
            where
              inside : {x y : Meeting} → Some x ≡ Some y → x ≡ y
              inside e = cc e
          go (inr n) = absurd (no (sym f ∙ n.may_not (due-whole (first_bag deploy.rows w) h.at.done before s (due-next (first_bag deploy.rows w) ss k.done fresh h.at h.walked.kept before s h.walked.below h.filled m f))))
            where
              no : {x : Meeting} → Some x ≡ None → ⊥
              no e = cc e

      walks : (m : Meeting) (v : Work) → meeting h.at.bag (done_steps h.at.done) s ≡ Some m → body_work deploy.prices deploy.limit room2 s m ≡ Some v → moved (state_of w h.at) s m v ≡ c
          → (o : Option Replay) → after_try deploy.prices deploy.limit room (first_bag deploy.rows w) before s h.at ≡ o → option_and_then (λ q. walk_from deploy.prices deploy.limit room (first_bag deploy.rows w) (before ++ s ∷ []) after q) o ≡ Some k → Reaches (before ++ s ∷ []) after c
      walks m v f g i None t o = cc
      walks m v f g i (Some q) t o = ends m v f g i q t o

      works : (m : Meeting) → meeting h.at.bag (done_steps h.at.done) s ≡ Some m → (o : Option Work) → body_work deploy.prices deploy.limit room2 s m ≡ o → option_map (moved (state_of w h.at) s m) o ≡ Some c → Reaches (before ++ s ∷ []) after c
      works m f None g i = cc
      works m f (Some v) g i = walks m v f g (inside i) (after_try deploy.prices deploy.limit room (first_bag deploy.rows w) before s h.at) refl h.goes_on
        where
          inside : {x y : State} → Some x ≡ Some y → x ≡ y
          inside e = cc e

      meets : (o : Option Meeting) → meeting h.at.bag (done_steps h.at.done) s ≡ o → option_and_then (λ m. option_map (moved (state_of w h.at) s m) (body_work deploy.prices deploy.limit room2 s m)) o ≡ Some c → Reaches (before ++ s ∷ []) after c
      meets None f g = cc
      meets (Some m) f g = works m f (body_work deploy.prices deploy.limit room2 s m) refl g

  -- and so are all steps of a legal list
  pub reach-all : (room2 : ℕ) (before xs ys : List Step) → ss ≡ before ++ (xs ++ ys) → (a c : State) → Reaches before (xs ++ ys) a → steps_from deploy.prices deploy.limit room2 a xs ≡ Some c → Reaches (before ++ xs) ys c
  reach-all room2 before [] ys log a c h e = subst (λ l. Reaches l ys c) (sym (append_nothing before)) (subst (Reaches before ys) (inside e) h)
    where
      inside : {x y : State} → Some x ≡ Some y → x ≡ y
      inside e = cc e
  reach-all room2 before (s ∷ xs) ys log a c h e =
      subst (λ l. Reaches l ys c) (append_assoc before (s ∷ []) xs) (go (λ b. reach-all room2 (before ++ s ∷ []) xs ys (log ∙ sym (append_assoc before (s ∷ []) (xs ++ ys))) b c) (step_from deploy.prices deploy.limit room2 a s) refl e)
    where
      go : ((b : State) → Reaches (before ++ s ∷ []) (xs ++ ys) b → steps_from deploy.prices deploy.limit room2 b xs ≡ Some c → Reaches ((before ++ s ∷ []) ++ xs) ys c)
          → (o : Option State) → step_from deploy.prices deploy.limit room2 a s ≡ o → option_and_then (λ b. steps_from deploy.prices deploy.limit room2 b xs) o ≡ Some c → Reaches ((before ++ s ∷ []) ++ xs) ys c
      go next None f g = cc
      go next (Some b) f g = next b (reach-more room2 before s (xs ++ ys) log a b h f) g

  -- the walk begins where a legal list does
  pub reach-none : walk deploy.prices deploy.limit room (first_bag deploy.rows w) ss ≡ Some k → Reaches [] ss (begun deploy.rows w)
  reach-none e = record { at = first_replay (first_bag deploy.rows w); walked = walked-start deploy.prices deploy.limit room (first_bag deploy.rows w) ss k; goes_on = e; state = refl; filled = λ j l. absurd (omega (arith, l)) }

  -- a step that is not allowed after a legal list is never done
  pub stays-left : (before : List Step) (s : Step) (after : List Step) (a : State) → Reaches before (s ∷ after) a → meeting a.bag a.made s ≡ None → is_done (length before) k.done ≡ false
  stays-left before s after a h e = walks (after_try deploy.prices deploy.limit room (first_bag deploy.rows w) before s h.at) refl h.goes_on
    where
      none : meeting h.at.bag (done_steps h.at.done) s ≡ None
      none = subst (λ x. meeting x.bag x.made s ≡ None) (sym h.state) e

      never : (q : Replay) → q ≡ h.at → Later (length (before ++ s ∷ [])) q k → (c : Bool) → is_done (length before) k.done ≡ c → c ≡ false
      never q i l false f = refl
      never q i l true f = let d = done-entry (length before) k.done f in absurd (clash d.0 d.1.1 (member-split d.0 q.done l.more (subst (λ x. Member d.0 x) l.is d.1.0)))
        where
          clash : (d : DoneStep) → length before ≡ d.index → Member d q.done ⊎ Member d l.more → ⊥
          clash d j (inl m) = omega (arith, h.walked.below d (subst (λ x. Member d x.done) i m), j)
          clash d j (inr m) = omega (arith, l.from d m, j, one-longer before s)

      ends : (q : Replay) → Later (length (before ++ s ∷ [])) q k → DoesNow deploy.prices deploy.limit room (first_bag deploy.rows w) before s h.at q ⊎ LeavesOut (first_bag deploy.rows w) before s h.at q → is_done (length before) k.done ≡ false
      ends q l (inl d) = absurd (no (sym d.allowed ∙ none))
        where
          no : {x : Meeting} → Some x ≡ None → ⊥
          no e = cc e
      ends q l (inr n) = never q n.is l (is_done (length before) k.done) refl

      walks : (o : Option Replay) → after_try deploy.prices deploy.limit room (first_bag deploy.rows w) before s h.at ≡ o → option_and_then (λ q. walk_from deploy.prices deploy.limit room (first_bag deploy.rows w) (before ++ s ∷ []) after q) o ≡ Some k → is_done (length before) k.done ≡ false
      walks None t o = cc
      walks (Some q) t o = ends q (later deploy.prices deploy.limit room (first_bag deploy.rows w) k (before ++ s ∷ []) after q o) (tried-how deploy.prices deploy.limit room (first_bag deploy.rows w) before s h.at q t)

  -- what was done on the way is done at the end
  pub filled-end : (before after : List Step) (a : State) → Reaches before after a → Filled (length before) k
  filled-end before after a h j l =
      let d = done-entry j h.at.done (h.filled j l) in
      let m = later deploy.prices deploy.limit room (first_bag deploy.rows w) k before after h.at h.goes_on in
      subst (λ n. is_done n k.done ≡ true) (sym d.1.1) (entry-done d.0 k.done (subst (λ x. Member d.0 x) (sym m.is) (member-left d.0 h.at.done m.more d.1.0)))
