-- What a walk does at each step of the log.
use Rattle.std.proofs.Common.{◌≡◌, ◌≤◌, ℕ, suc, Bool, true, false, cond, List, [], ◌∷◌, ◌++◌, length, refl, ap, sym, ◌∙◌, arith, inl, inr, append_assoc, length-append}
use Rattle.std.specs.Prelude.{◌⊎◌, Option, Some, None, option_map, option_and_then}
use Rattle.calculus.specs.Outcome.{Prices}
use Rattle.calculus.specs.Log.{Step}
use Rattle.calculus.specs.Rows.{Row}
use Rattle.calculus.specs.Steps.{Bag, Meeting, meeting, printed_line, stored_rows}
use Rattle.calculus.specs.Runs.{Work, body_work}
use Rattle.calculus.proofs.Members.{Member}
use Rattle.events.specs.Found.{without}
use Rattle.events.proofs.EventFollowing.{append_nothing}
use Rattle.racing_replays.specs.Replaying.{DoneStep, Replay, first_replay, done_steps, is_due, after_step, after_meeting, after_try, walk_from}
use Rattle.racing_replays.proofs.Keeping.{Kept}
use Rattle.racing_replays.proofs.Doing.{entry}

without-none : (rs : List Row) → without [] rs ≡ rs
without-none [] = refl
without-none (r ∷ rs) = ap (λ l. r ∷ l) (without-none rs)

-- before its first step
pub kept-untried : (b : Bag) (ss : List Step) (ds : List DoneStep) → Kept b ss ds (first_replay b)
kept-untried b ss ds = record {
  sub = λ d m. absurd m;
  single = tt;
  placed = λ d m. absurd m;
  closed = λ d m. absurd m;
  rows = sym (without-none (stored_rows b ++ []) ∙ append_nothing (stored_rows b));
  was_there = λ x e. absurd (no e);
}
  where
    no : false ≡ true → ⊥
    no e = cc

-- a step that is tried is done
pub record DoesNow (p : Prices) (cap room : ℕ) (b : Bag) (before : List Step) (s : Step) (r q : Replay) : Type 0 where
  pub due : is_due b r.done before s ≡ true
  pub found : Meeting
  pub allowed : meeting r.bag (done_steps r.done) s ≡ Some found
  pub work : Work
  pub works : body_work p cap room s found ≡ Some work
  pub is : q ≡ after_step r (length before) s found work

-- or it may not be done
pub record LeavesOut (b : Bag) (before : List Step) (s : Step) (r q : Replay) : Type 0 where
  pub is : q ≡ r
  pub may_not : is_due b r.done before s ≡ true → meeting r.bag (done_steps r.done) s ≡ None

pub tried-how : (p : Prices) (cap room : ℕ) (b : Bag) (before : List Step) (s : Step) (r q : Replay) → after_try p cap room b before s r ≡ Some q → DoesNow p cap room b before s r q ⊎ LeavesOut b before s r q
tried-how p cap room b before s r q e = start (is_due b r.done before s) refl e
  where
    inside : (x y : Replay) → Some x ≡ Some y → y ≡ x
    inside x y e = cc

    works : (m : Meeting) → is_due b r.done before s ≡ true → meeting r.bag (done_steps r.done) s ≡ Some m → (o : Option Work) → body_work p cap room s m ≡ o → option_map (after_step r (length before) s m) o ≡ Some q → DoesNow p cap room b before s r q
    works m d a None f e = cc
    works m d a (Some w) f e = record { due = d; found = m; allowed = a; work = w; works = f; is = inside (after_step r (length before) s m w) q e }

    meets : is_due b r.done before s ≡ true → (o : Option Meeting) → meeting r.bag (done_steps r.done) s ≡ o → after_meeting p cap room r (length before) s o ≡ Some q → DoesNow p cap room b before s r q ⊎ LeavesOut b before s r q
    meets d None a e = inr (record { is = inside r q e; may_not = λ x. a })
    meets d (Some m) a e = inl (works m d a (body_work p cap room s m) refl e)

    start : (c : Bool) → is_due b r.done before s ≡ c → cond c (after_meeting p cap room r (length before) s (meeting r.bag (done_steps r.done) s)) (Some r) ≡ Some q → DoesNow p cap room b before s r q ⊎ LeavesOut b before s r q
    start true d e = meets d (meeting r.bag (done_steps r.done) s) refl e
    start false d e = inr (record { is = inside r q e; may_not = λ x. absurd (no (is_due b r.done before s) d x) })
      where
        no : (c : Bool) → c ≡ false → c ≡ true → ⊥
        no c f g = cc

-- what a replay does after another has come so far: steps from this index on
pub record Later (i : ℕ) (r k : Replay) : Type 0 where
  pub more : List DoneStep
  pub is : k.done ≡ r.done ++ more
  pub from : (d : DoneStep) → Member d more → i ≤ d.index

pub one-longer : {A : Type 0} (xs : List A) (x : A) → length (xs ++ x ∷ []) ≡ suc (length xs)
one-longer xs x = length-append xs (x ∷ []) ∙ omega arith

pub later-tried : (p : Prices) (cap room : ℕ) (b : Bag) (before : List Step) (s : Step) (r q k : Replay) → DoesNow p cap room b before s r q ⊎ LeavesOut b before s r q → Later (length (before ++ s ∷ [])) q k → Later (length before) r k
later-tried p cap room b before s r q k (inl h) l = record { more = entry (length before) s h.work (printed_line r.bag h.found) ∷ l.more; is = l.is ∙ ap (λ x. x.done ++ l.more) h.is ∙ append_assoc r.done (entry (length before) s h.work (printed_line r.bag h.found) ∷ []) l.more; from = from }
  where
    from : (d : DoneStep) → Member d (entry (length before) s h.work (printed_line r.bag h.found) ∷ l.more) → length before ≤ d.index
    from d (inl e) = omega (arith, ap (λ x. x.index) e)
    from d (inr m) = omega (arith, l.from d m, one-longer before s)
later-tried p cap room b before s r q k (inr h) l = record { more = l.more; is = l.is ∙ ap (λ x. x.done ++ l.more) h.is; from = λ d m. omega (arith, l.from d m, one-longer before s) }

pub later : (p : Prices) (cap room : ℕ) (b : Bag) (k : Replay) (before after : List Step) (r : Replay) → walk_from p cap room b before after r ≡ Some k → Later (length before) r k
later p cap room b k before [] r e = record { more = []; is = ap (λ x. x.done) (inside e) ∙ sym (append_nothing r.done); from = λ d m. absurd m }
  where
    inside : Some r ≡ Some k → k ≡ r
    inside e = cc
later p cap room b k before (s ∷ after) r e = go (later p cap room b k (before ++ s ∷ []) after) (after_try p cap room b before s r) refl e
  where
    go : ((q : Replay) → walk_from p cap room b (before ++ s ∷ []) after q ≡ Some k → Later (length (before ++ s ∷ [])) q k)
        → (o : Option Replay) → after_try p cap room b before s r ≡ o → option_and_then (λ q. walk_from p cap room b (before ++ s ∷ []) after q) o ≡ Some k → Later (length before) r k
    go next None t f = cc
    go next (Some q) t f = later-tried p cap room b before s r q k (tried-how p cap room b before s r q t) (next q f)

-- the last of some is one of them
pub last-split : {A : Type 0} (xs : List A) (s : A) (mid : List A) (u : A) (post : List A) → xs ++ s ∷ [] ≡ mid ++ u ∷ post → ((rest : List A) × (xs ≡ mid ++ u ∷ rest)) ⊎ ((xs ≡ mid) × (s ≡ u))
last-split [] s [] u post e = inr (refl, head e)
  where
    head : s ∷ [] ≡ u ∷ post → s ≡ u
    head e = cc
last-split {A} [] s (m ∷ mid) u post e = absurd (never mid (tail e))
  where
    tail : s ∷ [] ≡ m ∷ (mid ++ u ∷ post) → [] ≡ mid ++ u ∷ post
    tail e = cc

    never : (l : List A) → [] ≡ l ++ u ∷ post → ⊥
    never [] e = cc e
    never (y ∷ l) e = cc e
last-split (x ∷ xs) s [] u post e = inl (xs, ap (λ y. y ∷ xs) (head e))
  where
    head : x ∷ (xs ++ s ∷ []) ≡ u ∷ post → x ≡ u
    head e = cc
last-split {A} (x ∷ xs) s (m ∷ mid) u post e = go (last-split xs s mid u post (tail e))
  where
    head : x ∷ (xs ++ s ∷ []) ≡ m ∷ (mid ++ u ∷ post) → x ≡ m
    head e = cc

    tail : x ∷ (xs ++ s ∷ []) ≡ m ∷ (mid ++ u ∷ post) → xs ++ s ∷ [] ≡ mid ++ u ∷ post
    tail e = cc

    go : ((rest : List A) × (xs ≡ mid ++ u ∷ rest)) ⊎ ((xs ≡ mid) × (s ≡ u)) → ((rest : List A) × (x ∷ xs ≡ m ∷ mid ++ u ∷ rest)) ⊎ ((x ∷ xs ≡ m ∷ mid) × (s ≡ u))
    go (inl h) = inl (h.0, cc (head e, h.1))
    go (inr h) = inr (cc (head e, h.0), h.1)
