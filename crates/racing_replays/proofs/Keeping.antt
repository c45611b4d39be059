-- What holds of each replay whose steps a walk does too.
use Rattle.std.proofs.Common.{◌≡◌, ◌≤◌, ◌<◌, ℕ, Bool, true, false, cond, List, [], ◌∷◌, ◌++◌, length, refl, ap, sym, ◌∙◌, subst, arith, inl, inr}
use Rattle.std.specs.Prelude.{flat_map, Option, Some, None}
use Rattle.calculus.specs.Log.{Step}
use Rattle.calculus.specs.Rows.{Row}
use Rattle.calculus.specs.Steps.{Bag, standing, stored_rows, is_one_of}
use Rattle.calculus.proofs.Members.{Member}
use Rattle.events.specs.Found.{without, leaving_rows}
use Rattle.events.proofs.Counts.{ids, times, AreDistinct, times-one_of, one_of-times}
use Rattle.events.proofs.Lookups.{row_with, rows_with, rows_with-have, row_with-there}
use Rattle.events.proofs.Meetings.{Joined, join}
use Rattle.events.proofs.Changed.{all-leaving-times}
use Rattle.racing_replays.specs.Replaying.{DoneStep, Replay, rows_by, is_done, names, any_among}
use Rattle.racing_replays.proofs.Lists.{AreSingle}

-- the rows that done steps offered
abbrev pub offers : List DoneStep → List Row
offers ds = flat_map rows_by ds

-- all rows that there ever are: those of the first bag and those that steps offer
abbrev pub universe : Bag → List DoneStep → List Row
universe b ds = standing b ++ offers ds

abbrev pub gone_joined : List Row → Option Joined → List (List ℕ)
gone_joined qs None = []
gone_joined qs (Some q) = ids (leaving_rows q.receiver.kind q.sends qs)

abbrev pub gone_of : Option (List Row) → List (List ℕ)
gone_of None = []
gone_of (Some qs) = gone_joined qs (join qs)

-- the ids of the rows that a step takes away, where it is made of these rows
abbrev pub gone : List Row → Step → List (List ℕ)
gone us s = gone_of (rows_with (names s) us)

-- the ids of the rows that steps take away
abbrev pub all_gone : List Row → List DoneStep → List (List ℕ)
all_gone us ds = flat_map (λ d. gone us d.step) ds

-- where a done step stands in the log
pub record InLog (ss : List Step) (d : DoneStep) : Type 0 where
  pub before : List Step
  pub after : List Step
  pub is : ss ≡ before ++ d.step ∷ after
  pub place : length before ≡ d.index

-- what holds of a replay of which a walk does each step: `ds` is what the walk does
pub record Kept (b : Bag) (ss : List Step) (ds : List DoneStep) (r : Replay) : Type 0 where
  pub sub : (d : DoneStep) → Member d r.done → Member d ds
  pub single : AreSingle r.done
  pub placed : (d : DoneStep) → Member d r.done → InLog ss d
  pub closed : (d : DoneStep) → Member d r.done → (before : List Step) (u : Step) (after : List Step) → ss ≡ before ++ u ∷ after → length before < d.index
      → any_among (names d.step) (names u) ≡ true → is_done (length before) r.done ≡ true
  pub rows : stored_rows r.bag ≡ without (all_gone (universe b ds) r.done) (stored_rows b ++ offers r.done)
  pub was_there : (x : List ℕ) → is_one_of x (all_gone (universe b ds) r.done) ≡ true → 1 ≤ times x (ids (universe b r.done))

-- what a step takes away it names
pub gone-named : (us : List Row) (s : Step) (x : List ℕ) → is_one_of x (gone us s) ≡ true → is_one_of x (names s) ≡ true
gone-named us s x e = go (rows_with (names s) us) refl e
  where
    joined : (qs : List Row) → names s ≡ ids qs → (o : Option Joined) → is_one_of x (gone_joined qs o) ≡ true → is_one_of x (names s) ≡ true
    joined qs i None e = cc
    joined qs i (Some q) e = ap (is_one_of x) i ∙ times-one_of x (ids qs) (omega (arith, one_of-times x _ e, all-leaving-times x q qs))

    go : (o : Option (List Row)) → rows_with (names s) us ≡ o → is_one_of x (gone_of o) ≡ true → is_one_of x (names s) ≡ true
    go None k e = cc
    go (Some qs) k e = joined qs (rows_with-have (names s) us qs k).0 (join qs) e

-- rows with one id are one, where no id stands twice
pub one-row : (us : List Row) → AreDistinct (ids us) → (z y : Row) → Member z us → Member y us → z.id ≡ y.id → z ≡ y
one-row us h z y m n e = inside (sym (row_with-there z us h m) ∙ ap (λ x. row_with x us) e ∙ row_with-there y us h n)
  where
    inside : Some z ≡ Some y → z ≡ y
    inside e = cc

-- what is left has none of these ids
pub left-not-gone : (ns : List (List ℕ)) (rs : List Row) (z : Row) → Member z (without ns rs) → is_one_of z.id ns ≡ false
left-not-gone ns [] z m = absurd m
left-not-gone ns (r ∷ rs) z m = go (is_one_of r.id ns) refl m (left-not-gone ns rs z)
  where
    go : (c : Bool) → is_one_of r.id ns ≡ c → Member z (cond c (without ns rs) (r ∷ without ns rs)) → (Member z (without ns rs) → is_one_of z.id ns ≡ false) → is_one_of z.id ns ≡ false
    go true k m next = next m
    go false k (inl e) next = ap (λ y. is_one_of y.id ns) e ∙ k
    go false k (inr m) next = next m

pub still-there : (ns : List (List ℕ)) (rs : List Row) (z : Row) → is_one_of z.id ns ≡ false → Member z rs → Member z (without ns rs)
still-there ns [] z e m = m
still-there ns (r ∷ rs) z e (inl f) = subst (λ c. Member z (cond c (without ns rs) (r ∷ without ns rs))) (sym (ap (λ q. is_one_of q.id ns) (sym f) ∙ e)) (inl f)
still-there ns (r ∷ rs) z e (inr m) = go (is_one_of r.id ns) (still-there ns rs z e m)
  where
    go : (c : Bool) → Member z (without ns rs) → Member z (cond c (without ns rs) (r ∷ without ns rs))
    go true k = k
    go false k = inr k
