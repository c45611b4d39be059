-- The space after an entry.
use Rattle.std.proofs.Common.{◌≡◌, ℕ, Bool, List, [], ◌∷◌, ◌++◌, map as each, refl, sym, ap, subst, ◌∙◌, inl, inr, append_assoc}
use Rattle.std.specs.Prelude.{◌⊎◌, flat_map, Some}
use Rattle.calculus.specs.Log.{Step}
use Rattle.calculus.specs.Steps.{Bag}
use Rattle.calculus.specs.Runs.{Deploy}
use Rattle.calculus.proofs.Members.{Member, member-split}
use Rattle.racing_replays.specs.Racing.{arrival, done_index, idle_try}
use Rattle.racing_replays.specs.Laws.{first_bag}
use Rattle.hub_scenes.specs.Spaces.{NewRow, IndexTry, Job, arrive, try_index, Space, new_row}
use Rattle.hub_scenes.specs.Entries.{Deed, arrives, does, idles, indices, space_after, offers_of, did_by_try}
use Rattle.hub_scenes.specs.ReplayScene.{IsEvent, IsReached, IsFreshSpace}
use Rattle.hub_scenes.proofs.Basics.{has, image-of}
use Rattle.hub_scenes.proofs.Good.{Good, GoodTry}
use Rattle.hub_scenes.proofs.Early.{idle-races}
use Rattle.hub_scenes.proofs.Fresh.{fresh-reached}
use Rattle.hub_scenes.proofs.Keeps.{comes-more, good-arrival, good-first, good-done, good-next}

pub work-stays : (st : Space) (touched : ℕ → Bool) (d : Deed) → (space_after st touched d).work ≡ st.work
work-stays st touched (arrives a next) = refl
work-stays st touched (does x m next) = refl
work-stays st touched (idles x) = refl

-- the arrivals and the tries of jobs
abbrev pub arrivals_of : Job → List NewRow
arrivals_of (arrive a) = a ∷ []
arrivals_of (try_index t) = []

abbrev pub tries_of : Job → List ℕ
tries_of (arrive a) = []
tries_of (try_index t) = t.index ∷ []

pub arrivals-tried : (ts : List IndexTry) → flat_map arrivals_of (each try_index ts) ≡ []
arrivals-tried [] = refl
arrivals-tried (t ∷ ts) = arrivals-tried ts

pub tries-tried : (ts : List IndexTry) → flat_map tries_of (each try_index ts) ≡ indices ts
tries-tried [] = refl
tries-tried (t ∷ ts) = ap (λ l. t.index ∷ l) (tries-tried ts)

pub arrivals-arrive : {A : Type 0} (f : A → NewRow) (rs : List A) → flat_map arrivals_of (each (λ r. arrive (f r)) rs) ≡ each f rs
arrivals-arrive f [] = refl
arrivals-arrive f (r ∷ rs) = ap (λ l. f r ∷ l) (arrivals-arrive f rs)

pub tries-arrive : {A : Type 0} (f : A → NewRow) (rs : List A) → flat_map tries_of (each (λ r. arrive (f r)) rs) ≡ []
tries-arrive f [] = refl
tries-arrive f (r ∷ rs) = tries-arrive f rs

pub flat-both : {A B : Type 0} (f : A → List B) (xs ys : List A) → flat_map f (xs ++ ys) ≡ flat_map f xs ++ flat_map f ys
flat-both f [] ys = refl
flat-both f (x ∷ xs) ys = ap (λ l. f x ++ l) (flat-both f xs ys) ∙ sym (append_assoc (f x) (flat_map f xs) (flat_map f ys))

same-try : (s t : IndexTry) → try_index s ≡ try_index t → s ≡ t
same-try s t e = cc e

not-arrival : (t : IndexTry) (a : NewRow) → try_index t ≡ arrive a → ⊥
not-arrival t a e = cc e

one-try : (y : IndexTry) (next : List IndexTry) → Member (try_index y) (each try_index next) → Member y next
one-try y next m = let z = image-of try_index (try_index y) next m in subst (λ t. Member t next) (sym (same-try y z.0 z.1.1)) z.1.0

module _ (deploy : Deploy) (ss : List Step) (st : Space) (touched : ℕ → Bool) where
  pub reached-after : (d : Deed) → IsEvent deploy ss st touched d → IsReached deploy ss (space_after st touched d)
  reached-after (arrives a next) i = record { begins = i.reached.begins; racing = i.next; races = arrival i.reached.races i.event; is = i.is }
  reached-after (does x m next) i = record { begins = i.reached.begins; racing = i.next; races = idle-races deploy st.work ss i.event.early i.event.between i.next (done_index i.reached.races i.event.finishes) i.event.ends; is = i.is }
  reached-after (idles x) i = record { begins = i.reached.begins; racing = i.next; races = idle_try i.reached.races i.event; is = i.is }

  module _ (fr : IsFreshSpace deploy ss st) (g : Good (first_bag deploy.rows st.work) st) where
    pub good-after : (d : Deed) → IsEvent deploy ss st touched d → Good (first_bag deploy.rows st.work) (space_after st touched d)
    good-after (arrives a next) i = good-arrival deploy ss st i.reached (fresh-reached deploy ss st i.reached fr) g a next touched (has a st.arriving i.right.0) i.right.1.0
    good-after (does x m next) i = good-done deploy ss st i.reached (fresh-reached deploy ss st i.reached fr) g x touched m next i.right
    good-after (idles x) i = record { counts = g.counts; origin = g.origin; origins = g.origins }

    -- tries that an entry offers are good
    pub new-tries : (d : Deed) → IsEvent deploy ss st touched d → (y : IndexTry) → Member (try_index y) (offers_of d) → GoodTry (first_bag deploy.rows st.work) ss (space_after st touched d) y
    new-tries (arrives a next) i y m = good-first deploy ss st i.reached (fresh-reached deploy ss st i.reached fr) g a next touched (has a st.arriving i.right.0) i.right.1.0 i.right.1.1 y (one-try y next m)
    new-tries (does x a next) i y m = go (member-split (try_index y) (each (λ r. arrive (new_row (Some x.index) r)) a.offers) (each try_index next) m)
      where
        go : Member (try_index y) (each (λ r. arrive (new_row (Some x.index) r)) a.offers) ⊎ Member (try_index y) (each try_index next) → GoodTry (first_bag deploy.rows st.work) ss (space_after st touched (does x a next)) y
        go (inl n) = let z = image-of (λ r. arrive (new_row (Some x.index) r)) (try_index y) a.offers n in absurd (not-arrival y (new_row (Some x.index) z.0) z.1.1)
        go (inr n) = good-next deploy ss st i.reached (fresh-reached deploy ss st i.reached fr) g x touched a next i.right y (one-try y next n)
    new-tries (idles x) i y m = absurd m

  pub tries-stay : (b : Bag) (d : Deed) (y : IndexTry) → GoodTry b ss st y → GoodTry b ss (space_after st touched d) y
  tries-stay b (arrives a next) y h = record { row = h.row; from = h.from; comes = h.comes; channel = h.channel; named = h.named }
  tries-stay b (does x m next) y h = record { row = h.row; from = h.from; comes = comes-more b st.done (did_by_try x m) h.row h.from h.comes; channel = h.channel; named = h.named }
  tries-stay b (idles x) y h = record { row = h.row; from = h.from; comes = h.comes; channel = h.channel; named = h.named }
