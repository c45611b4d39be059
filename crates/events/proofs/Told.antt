-- What is told of each state that legal steps lead to: its digests stand at different keys.
use Rattle.std.proofs.Common.{◌≡◌, ◌≢◌, ℕ, suc, ◌<◌, ◌≤◌, ◌+◌, ◌^◌, Bool, true, false, cond, List, [], ◌∷◌, ◌++◌, map as each, length, refl, sym, ap, ◌∙◌, subst, arith, inl, inr}
use Rattle.std.specs.Prelude.{◌⊎◌, count_by}
use Rattle.std.proofs.lemmas.Slice.Eq.{bytes_eq-Decides}
use Rattle.std.proofs.lemmas.List.{append-nil, map-append}
use Rattle.std.proofs.lemmas.List.Concat.{flat_map-append}
use Rattle.std.proofs.lemmas.List.Sums.{sum_by-cons, sum_by-append}
use Rattle.calculus.proofs.Members.{Member, Every, every-append, every-up, member-split, member-left, member-right, every-left, every-right}
use Rattle.calculus.specs.Form.{IsDigest}
use Rattle.calculus.specs.Log.{Step}
use Rattle.calculus.specs.Rows.{Row, stdout, stdout_ack}
use Rattle.calculus.specs.Seeds.{Seed, System, Comm}
use Rattle.calculus.specs.Unfolding.{Product, a_row, a_fresh, rows_of, digest}
use Rattle.calculus.specs.Steps.{Bag, Meeting, standing, stored_rows, same_ids, same_meeting, has_place, but_places, bag_after}
use Rattle.calculus.specs.Runs.{Work, work_products, State, moved, begun, made_digests}
use Rattle.events.specs.Events.{digests}
use Rattle.events.specs.HashedTexts.{step_seed}
use Rattle.events.proofs.Texts.{IsSound}
use Rattle.events.proofs.Octets.{seed-digest}
use Rattle.events.proofs.Keys.{stands-digest, Key, value, IsKey, AreApart}
use Rattle.events.proofs.Ways.{apart-append}
use Rattle.events.proofs.Keyed.{Keyed}
use Rattle.events.proofs.Allowed.{HaveDigests, Shown}

-- the seed of one of these steps
abbrev pub OfStep : List Step → Seed → Type 0
OfStep made s = (u : Step) × Member u made × (s ≡ step_seed u)

-- what is told of a state
pub record Told (H : List ℕ → Type 0) (first : Seed) (a : State) : Type 0 where
  pub keys : List Key
  pub digests : made_digests a ≡ each value keys
  pub apart : AreApart keys
  pub sound : Every (IsKey H) keys
  pub rooted : Every (λ k. (k.root ≡ first) ⊎ OfStep a.made k.root) keys
  pub counts : (u : Step) → Member u a.made → u.repeat < count_by (same_meeting u) a.made
  pub ids : HaveDigests (stored_rows a.bag)

rows-have : (xs : List Product) → Every IsDigest (each digest xs) → HaveDigests (rows_of xs)
rows-have [] h = tt
rows-have (a_row r ∷ xs) h = (h.0, rows-have xs h.1)
rows-have (a_fresh x ∷ xs) h = rows-have xs h.1

values-have : (ks : List Key) → Every IsDigest (each value ks)
values-have [] = tt
values-have (k ∷ ks) = (stands-digest k.root k.moves, values-have ks)

keyed-rows : (H : List ℕ → Type 0) (r : Seed) (xs : List Product) → Keyed H r xs → HaveDigests (rows_of xs)
keyed-rows H r xs k = rows-have xs (subst (Every IsDigest) (sym k.digests) (values-have k.keys))

-- of the state before the first step
pub begun-told : (H : List ℕ → Type 0) (first : Seed) (rows : List Row) (w : Work) → HaveDigests rows → Keyed H first (work_products w) → Told H first (begun rows w)
begun-told H first rows w h k = record {
  keys = k.keys;
  digests = append-nil (each digest (work_products w)) ∙ k.digests;
  apart = k.apart;
  sound = k.sound;
  rooted = every-up (λ j. j.root ≡ first) (λ j. (j.root ≡ first) ⊎ OfStep [] j.root) (λ j e. inl e) k.keys k.rooted;
  counts = λ u m. absurd m;
  ids = every-append (λ r. IsDigest r.id) rows (rows_of (work_products w)) h (keyed-rows H first (work_products w) k);
}

-- the step of a seed
step_of : Seed → Step
step_of (Comm c xs n) = record { receiver = c; data_ids = xs; repeat = n }
step_of _ = record { receiver = []; data_ids = []; repeat = 0 }

one-step : (u s : Step) → step_seed u ≡ step_seed s → u ≡ s
unfolding step_of
one-step u s e = ap step_of e

-- a step whose repeat number is right has another seed than those before it
new-seed : (made : List Step) (u s : Step) → ((v : Step) → Member v made → v.repeat < count_by (same_meeting v) made) → s.repeat ≡ count_by (same_meeting s) made → Member u made → step_seed u ≡ step_seed s → ⊥
new-seed made u s h r m e = let k = subst (λ v. v.repeat < count_by (same_meeting v) made) (one-step u s e) (h u m) in omega (arith, k, r)

same_ids-self : (xs : List (List ℕ)) → same_ids xs xs ≡ true
same_ids-self [] = refl
same_ids-self (x ∷ xs) = cc ((bytes_eq-Decides x x).1 refl, same_ids-self xs)

same-self : (s : Step) → same_meeting s s ≡ true
same-self s = cc ((bytes_eq-Decides s.receiver s.receiver).1 refl, same_ids-self s.data_ids)

counts-more : (q : Step → Bool) (made : List Step) (s : Step) → count_by q (made ++ s ∷ []) ≡ count_by q made + cond (q s) 1 0
counts-more q made s = sum_by-append (λ u. cond (q u) 1 0) made (s ∷ []) ∙ ap (λ n. count_by q made + n) (sum_by-cons (λ u. cond (q u) 1 0) s [] ∙ omega arith)

still-counts : (made : List Step) (s : Step) → ((v : Step) → Member v made → v.repeat < count_by (same_meeting v) made) → s.repeat ≡ count_by (same_meeting s) made
    → (u : Step) → Member u (made ++ s ∷ []) → u.repeat < count_by (same_meeting u) (made ++ s ∷ [])
still-counts made s h r u m = go (member-split u made (s ∷ []) m)
  where
    own : s.repeat < count_by (same_meeting s) (made ++ s ∷ [])
    own = omega (arith, r, counts-more (same_meeting s) made s, ap {B = ℕ} (λ b. cond b 1 0) (same-self s))

    go : Member u made ⊎ Member u (s ∷ []) → u.repeat < count_by (same_meeting u) (made ++ s ∷ [])
    go (inl k) = omega (arith, h u k, counts-more (same_meeting u) made s)
    go (inr (inl e)) = subst (λ v. v.repeat < count_by (same_meeting v) (made ++ s ∷ [])) (sym e) own
    go (inr (inr k)) = absurd k

count-short : (q : Step → Bool) (made : List Step) → count_by q made ≤ length made
count-short q [] = omega arith
count-short q (u ∷ made) = go (q u) (sum_by-cons (λ v. cond (q v) 1 0) u made) (count-short q made)
  where
    go : (b : Bool) → count_by q (u ∷ made) ≡ cond b 1 0 + count_by q made → count_by q made ≤ length made → count_by q (u ∷ made) ≤ suc (length made)
    go true e h = omega (arith, e, h)
    go false e h = omega (arith, e, h)

-- a step's seed is told by its text
pub step-sound : (made : List Step) (s : Step) → Shown made s → length made < 2 ^ 32 → IsSound (step_seed s)
step-sound made s h l = (h.ids.0, (h.ids.1, omega (arith, h.repeats, count-short (same_meeting s) made, l)))

left-have : (ps : List ℕ) (i : ℕ) (rs : List Row) → HaveDigests rs → HaveDigests (but_places ps i rs)
left-have ps i [] h = tt
left-have ps i (r ∷ rs) h = go (has_place ps i) (left-have ps (suc i) rs h.1)
  where
    go : (b : Bool) → HaveDigests (but_places ps (suc i) rs) → HaveDigests (cond b (but_places ps (suc i) rs) (r ∷ but_places ps (suc i) rs))
    go true k = k
    go false k = (h.0, k)

-- the rows at hand have ids of 32 bytes where the stored ones do
pub standing-have : (b : Bag) → HaveDigests (stored_rows b) → HaveDigests (standing b)
standing-have b h =
    every-append (λ r. IsDigest r.id) b.kept (stdout ∷ stdout_ack ∷ b.offered) (every-left (λ r. IsDigest r.id) b.kept b.offered h)
    (seed-digest (System 2), (seed-digest (System 3), every-right (λ r. IsDigest r.id) b.kept b.offered h))

after-have : (b : Bag) (m : Meeting) (rs : List Row) → HaveDigests (stored_rows b) → HaveDigests rs → HaveDigests (stored_rows (bag_after b m rs))
after-have b m rs h k =
    every-append (λ r. IsDigest r.id) (but_places m.leaving 0 b.kept) (but_places m.leaving (suc (suc (length b.kept))) b.offered ++ rs)
    (left-have m.leaving 0 b.kept (every-left (λ r. IsDigest r.id) b.kept b.offered h))
    (every-append (λ r. IsDigest r.id) (but_places m.leaving (suc (suc (length b.kept))) b.offered) rs (left-have m.leaving (suc (suc (length b.kept))) b.offered (every-right (λ r. IsDigest r.id) b.kept b.offered h)) k)

pub digests-more : (ws : List Work) (w : Work) → digests (ws ++ w ∷ []) ≡ digests ws ++ each digest (work_products w)
digests-more ws w = flat_map-append (λ v. each digest (work_products v)) ws (w ∷ []) ∙ ap (λ l. digests ws ++ l) (append-nil (each digest (work_products w)))

-- of the state after one more step
pub moved-told : (H : List ℕ → Type 0) (first : Seed) → ((u : Step) → first ≢ step_seed u) → (a : State) (s : Step) (m : Meeting) (w : Work) → Told H first a → Shown a.made s → Keyed H (step_seed s) (work_products w) → Told H first (moved a s m w)
moved-told H first differs a s m w h g k = record {
  keys = h.keys ++ k.keys;
  digests = digests-more a.works w ∙ ap (λ l. l ++ each digest (work_products w)) h.digests ∙ ap (λ l. each value h.keys ++ l) k.digests ∙ sym (map-append value h.keys k.keys);
  apart = apart-append (λ j. (j.root ≡ first) ⊎ OfStep a.made j.root) (λ j. j.root ≡ step_seed s) other h.keys k.keys h.rooted k.rooted h.apart k.apart;
  sound = every-append (IsKey H) h.keys k.keys h.sound k.sound;
  rooted = every-append Rooted h.keys k.keys (every-up (λ j. (j.root ≡ first) ⊎ OfStep a.made j.root) Rooted old h.keys h.rooted) (every-up (λ j. j.root ≡ step_seed s) Rooted new k.keys k.rooted);
  counts = still-counts a.made s h.counts g.repeats;
  ids = after-have a.bag m (rows_of (work_products w)) h.ids (keyed-rows H (step_seed s) (work_products w) k);
}
  where
    Rooted : Key → Type 0
    Rooted j = (j.root ≡ first) ⊎ OfStep (a.made ++ s ∷ []) j.root

    same-root : (j i : Key) → (j.root ≡ first) ⊎ OfStep a.made j.root → j.root ≡ step_seed s → ⊥
    same-root j i (inl e) f = differs s (sym e ∙ f)
    same-root j i (inr u) f = new-seed a.made u.0 s h.counts g.repeats u.1 (sym u.2 ∙ f)

    other : (j i : Key) → (j.root ≡ first) ⊎ OfStep a.made j.root → i.root ≡ step_seed s → j ≢ i
    other j i q r = λ e. same-root j i q (ap (λ (x : Key). x.root) e ∙ r)

    old : (j : Key) → (j.root ≡ first) ⊎ OfStep a.made j.root → Rooted j
    old j (inl e) = inl e
    old j (inr u) = inr (u.0, member-left u.0 a.made (s ∷ []) u.1, u.2)

    new : (j : Key) → j.root ≡ step_seed s → Rooted j
    new j e = inr (s, member-right s a.made (s ∷ []) (inl refl), e)
