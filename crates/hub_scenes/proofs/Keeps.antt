-- An entry keeps what is good of a space.
use Rattle.std.proofs.Common.{◌≡◌, ℕ, suc, ◌+◌, Bool, true, false, cond, List, [], ◌∷◌, ◌++◌, map as each, refl, sym, ap, subst, ◌∙◌, arith, inl, inr}
use Rattle.std.specs.Prelude.{◌⊎◌, Option, Some, None, count_by, flat_map}
use Rattle.std.specs.Str.{bytes_eq}
use Rattle.std.proofs.lemmas.List.Sums.{sum_by-append, sum_by-cons}
use Rattle.calculus.specs.Log.{Step}
use Rattle.calculus.specs.Rows.{Row, channels}
use Rattle.calculus.specs.Steps.{Bag, is_one_of}
use Rattle.calculus.specs.Runs.{Deploy}
use Rattle.calculus.proofs.Members.{Member, member-split, member-left, member-right, member-each}
use Rattle.events.specs.Entries.{Making}
use Rattle.racing_replays.specs.Replaying.{DoneStep}
use Rattle.racing_replays.specs.Laws.{first_bag, IsFresh}
use Rattle.racing_replays.specs.Counted.{names_id}
use Rattle.events.specs.Shards.{Covers}
use Rattle.hub_scenes.specs.Spaces.{SeenRow, NewRow, IndexTry, DidStep, Space, new_row, arrived, bare, steps_did, lies_in}
use Rattle.hub_scenes.specs.Entries.{arrives, does, counted, left_by, counted_by, but_row, did_by_try, space_after}
use Rattle.hub_scenes.specs.Showing.{IsFirstUse, Makes}
use Rattle.hub_scenes.specs.ReplayScene.{IsReached}
use Rattle.hub_scenes.proofs.Basics.{no-test, has, hold, each-both, image-of}
use Rattle.hub_scenes.proofs.Good.{ComesBy, Good, GoodTry}
use Rattle.hub_scenes.proofs.Here.{held, steps-same}
use Rattle.hub_scenes.proofs.Doing.{named-lies}
use Rattle.hub_scenes.proofs.Told.{comes-there}

none-count : (q : Step → Bool) (us : List Step) → ((u : Step) → Member u us → q u ≡ false) → count_by q us ≡ 0
none-count q [] h = refl
none-count q (u ∷ us) h = omega (arith, sum_by-cons (λ v. cond (q v) 1 0) u us, ap {B = ℕ} (λ c. cond c 1 0) (h u (inl refl)), none-count q us (λ v m. h v (inr m)))

one-more : (q : Step → Bool) (us : List Step) (u : Step) → count_by q (us ++ u ∷ []) ≡ count_by q us + cond (q u) 1 0
one-more q us u = omega (arith, sum_by-append (λ v. cond (q v) 1 0) us (u ∷ []), sum_by-cons (λ v. cond (q v) 1 0) u [])

but-there : (x : List ℕ) (l : List NewRow) (a : NewRow) → Member a (but_row x l) → Member a l
but-there x [] a m = m
but-there x (b ∷ l) a m = go (but-there x l a) (bytes_eq x b.row.id) m
  where
    go : (Member a (but_row x l) → Member a l) → (c : Bool) → Member a (cond c l (b ∷ but_row x l)) → Member a (b ∷ l)
    go next true m = inr m
    go next false (inl e) = inl e
    go next false (inr m) = inr (next m)

-- a member of what is made of each
flat-of : {A B : Type 0} (h : A → List B) (y : B) (xs : List A) → Member y (flat_map h xs) → (x : A) × (Member x xs × Member y (h x))
flat-of h y [] m = absurd m
flat-of {A} {B} h y (x ∷ xs) m = go (flat-of h y xs) (member-split y (h x) (flat_map h xs) m)
  where
    go : (Member y (flat_map h xs) → (z : A) × (Member z xs × Member y (h z))) → Member y (h x) ⊎ Member y (flat_map h xs) → (z : A) × (Member z (x ∷ xs) × Member y (h z))
    go next (inl i) = (x, (inl refl, i))
    go next (inr i) = let z = next i in (z.0, (inr z.1.0, z.1.1))

-- what a step offered it offered when more are done
pub comes-more : (b : Bag) (ds : List DidStep) (d : DidStep) (z : Row) (from : Option ℕ) → ComesBy b ds z from → ComesBy b (ds ++ d ∷ []) z from
comes-more b ds d z None h = h
comes-more b ds d z (Some i) h = record { did = h.did; there = member-left h.did ds (d ∷ []) h.there; index = h.index; row = h.row }

-- a row that no step names is counted as it was
pub not-counted : (s : Step) (q : SeenRow) → names_id q.row.id s ≡ false → q ≡ counted s q
not-counted s q e = sym (ap (λ b. record { row = q.row; from = q.from; done = cond b (suc q.done) q.done }) e)

-- the space when it has been counted: each row is one counted
module _ (touched : ℕ → Bool) (s : Step) (gone : List (List ℕ)) (store built : List SeenRow) (lies : (q : SeenRow) → Member q (store ++ built) → names_id q.row.id s ≡ true → lies_in touched q.row ≡ true) where
  out-of : (q : SeenRow) → Member q (store ++ built) → lies_in touched q.row ≡ false → q ≡ counted s q
  out-of q m e = not-counted s q (no-test (names_id q.row.id s) (λ n. let h = lies q m n in cc))

  counted-row : (q : SeenRow) → Member q (store ++ built) → (z : SeenRow) → Member z (left_by touched s gone q) → z ≡ counted s q
  counted-row q m z i = go (lies_in touched q.row) refl (is_one_of q.row.id gone) i
    where
      go : (b : Bool) → lies_in touched q.row ≡ b → (c : Bool) → Member z (cond b (cond c [] (counted s q ∷ [])) (q ∷ [])) → z ≡ counted s q
      go true e true i = absurd i
      go true e false (inl k) = k
      go true e false (inr k) = absurd k
      go false e c (inl k) = k ∙ out-of q m e
      go false e c (inr k) = absurd k

  pub counted-built : (q : SeenRow) → Member q (store ++ built) → counted_by touched s q ≡ counted s q
  counted-built q m = go (lies_in touched q.row) refl
    where
      go : (b : Bool) → lies_in touched q.row ≡ b → cond b (counted s q) q ≡ counted s q
      go true e = refl
      go false e = out-of q m e

  pub was-there : (z : SeenRow) → Member z (flat_map (left_by touched s gone) store ++ each (counted_by touched s) built) → (q : SeenRow) × (Member q (store ++ built) × z ≡ counted s q)
  was-there z m = go (member-split z (flat_map (left_by touched s gone) store) (each (counted_by touched s) built) m)
    where
      go : Member z (flat_map (left_by touched s gone) store) ⊎ Member z (each (counted_by touched s) built) → (q : SeenRow) × (Member q (store ++ built) × z ≡ counted s q)
      go (inl i) = let q = flat-of (left_by touched s gone) z store i in let n = member-left q.0 store built q.1.0 in (q.0, (n, counted-row q.0 n z q.1.1))
      go (inr i) = let q = image-of (counted_by touched s) z built i in let n = member-right q.0 store built q.1.0 in (q.0, (n, q.1.1 ∙ counted-built q.0 n))

module _ (deploy : Deploy) (ss : List Step) (st : Space) (r : IsReached deploy ss st) (f : IsFresh deploy.rows st.work r.racing.done) (g : Good (first_bag deploy.rows st.work) st) where
  -- no done step names a row that is to arrive
  unnamed : (a : NewRow) → Member a st.arriving → count_by (names_id a.row.id) (steps_did st.done) ≡ 0
  unnamed a m = none-count (names_id a.row.id) (steps_did st.done) (λ u i. go u (image-of (λ (d : DoneStep). d.step) u r.racing.done (subst (λ l. Member u l) (steps-same deploy ss st r f) i)))
    where
      there : Member a.row r.racing.arriving
      there = subst (λ l. Member a.row l) r.is.arriving (member-each (λ y. y.row) a st.arriving m)

      go : (u : Step) → (d : DoneStep) × (Member d r.racing.done × u ≡ d.step) → names_id a.row.id u ≡ false
      go u d = ap (names_id a.row.id) d.1.1 ∙ (held deploy ss st r f).going.unnamed a.row there d.0 (subst (λ l. Member d.0 l) (held deploy ss st r f).same d.1.0)

  module _ (a : NewRow) (next : List IndexTry) (touched : ℕ → Bool) (waits : Member a st.arriving) (covers : Covers touched (a.row ∷ [])) where
    -- what is there when a row arrived
    more : (z : SeenRow) → Member z ((st.store ++ arrived a ∷ []) ++ st.built) → Member z (st.store ++ st.built) ⊎ (z ≡ arrived a)
    more z m = outer (member-split z (st.store ++ arrived a ∷ []) st.built m)
      where
        inner : Member z st.store ⊎ Member z (arrived a ∷ []) → Member z (st.store ++ st.built) ⊎ (z ≡ arrived a)
        inner (inl i) = inl (member-left z st.store st.built i)
        inner (inr (inl e)) = inr e
        inner (inr (inr i)) = absurd i

        outer : Member z (st.store ++ arrived a ∷ []) ⊎ Member z st.built → Member z (st.store ++ st.built) ⊎ (z ≡ arrived a)
        outer (inl i) = inner (member-split z st.store (arrived a ∷ []) i)
        outer (inr i) = inl (member-right z st.store st.built i)

    there : (z : SeenRow) → Member z ((space_after st touched (arrives a next)).store ++ st.built) → Member z (st.store ++ st.built) ⊎ (z ≡ arrived a)
    there z m = more z (subst (λ l. Member z ((st.store ++ l) ++ st.built)) (comes-there touched a covers) m)

    pub good-arrival : Good (first_bag deploy.rows st.work) (space_after st touched (arrives a next))
    good-arrival = record {
      counts = λ q m. counts q (there q m);
      origin = λ q m. origin q (there q m);
      origins = λ z m. g.origins z (but-there a.row.id st.arriving z m);
    }
      where
        counts : (q : SeenRow) → Member q (st.store ++ st.built) ⊎ (q ≡ arrived a) → q.done ≡ count_by (names_id q.row.id) (steps_did st.done)
        counts q (inl m) = g.counts q m
        counts q (inr e) = subst (λ z. z.done ≡ count_by (names_id z.row.id) (steps_did st.done)) (sym e) (sym (unnamed a waits))

        origin : (q : SeenRow) → Member q (st.store ++ st.built) ⊎ (q ≡ arrived a) → ComesBy (first_bag deploy.rows st.work) st.done q.row q.from
        origin q (inl m) = g.origin q m
        origin q (inr e) = subst (λ z. ComesBy (first_bag deploy.rows st.work) st.done z.row z.from) (sym e) (g.origins a waits)

    pub good-first : IsFirstUse ss a.row next → (y : IndexTry) → Member y next → GoodTry (first_bag deploy.rows st.work) ss (space_after st touched (arrives a next)) y
    good-first u y m =
        let i = u.uses_of y (hold y next m) in
        record { row = i.row; from = a.from; comes = one i.row (has i.row (a.row ∷ []) i.there); channel = has y.channel (channels i.row.part) i.channel; named = i.named }
      where
        one : (z : Row) → Member z (a.row ∷ []) → ComesBy (first_bag deploy.rows st.work) st.done z a.from
        one z (inl e) = subst (λ w. ComesBy (first_bag deploy.rows st.work) st.done w a.from) (sym e) (g.origins a waits)
        one z (inr e) = absurd e

  module _ (x : IndexTry) (touched : ℕ → Bool) (m : Making) (next : List IndexTry) (mk : Makes ss deploy (st.store ++ st.built) x.index touched m next) where
    abbrev new : DidStep
    new = did_by_try x m

    was : (z : SeenRow) → Member z ((space_after st touched (does x m next)).store ++ (space_after st touched (does x m next)).built) → (q : SeenRow) × (Member q (st.store ++ st.built) × z ≡ counted m.step q)
    was = was-there touched m.step m.gone st.store st.built (named-lies deploy ss st r f x touched m next mk)

    counts-more : (q : SeenRow) → Member q (st.store ++ st.built) → (counted m.step q).done ≡ count_by (names_id q.row.id) (steps_did (st.done ++ new ∷ []))
    counts-more q i = go (names_id q.row.id m.step) refl
      where
        all : count_by (names_id q.row.id) (steps_did (st.done ++ new ∷ [])) ≡ q.done + cond (names_id q.row.id m.step) 1 0
        all = ap (count_by (names_id q.row.id)) (each-both (λ d. d.step) st.done (new ∷ [])) ∙ one-more (names_id q.row.id) (steps_did st.done) m.step ∙ ap (λ n. n + cond (names_id q.row.id m.step) 1 0) (sym (g.counts q i))

        go : (b : Bool) → names_id q.row.id m.step ≡ b → cond b (suc q.done) q.done ≡ count_by (names_id q.row.id) (steps_did (st.done ++ new ∷ []))
        go true e = omega (arith, all, ap {B = ℕ} (λ c. cond c 1 0) e)
        go false e = omega (arith, all, ap {B = ℕ} (λ c. cond c 1 0) e)

    comes-still : (z : Row) (from : Option ℕ) → ComesBy (first_bag deploy.rows st.work) st.done z from → ComesBy (first_bag deploy.rows st.work) (st.done ++ new ∷ []) z from
    comes-still z from h = comes-more (first_bag deploy.rows st.work) st.done new z from h

    pub good-done : Good (first_bag deploy.rows st.work) (space_after st touched (does x m next))
    good-done = record {
      counts = λ z i. (let q = was z i in subst (λ y. y.done ≡ count_by (names_id y.row.id) (steps_did (st.done ++ new ∷ []))) (sym q.1.1) (counts-more q.0 q.1.0));
      origin = λ z i. (let q = was z i in subst (λ y. ComesBy (first_bag deploy.rows st.work) (st.done ++ new ∷ []) y.row y.from) (sym q.1.1) (comes-still q.0.row q.0.from (g.origin q.0 q.1.0)));
      origins = λ a i. arrivals a (member-split a st.arriving (each (new_row (Some x.index)) m.offers) i);
    }
      where
        arrivals : (a : NewRow) → Member a st.arriving ⊎ Member a (each (new_row (Some x.index)) m.offers) → ComesBy (first_bag deploy.rows st.work) (st.done ++ new ∷ []) a.row a.from
        arrivals a (inl i) = comes-still a.row a.from (g.origins a i)
        arrivals a (inr i) =
            let z = image-of (new_row (Some x.index)) a m.offers i in
            subst (λ y. ComesBy (first_bag deploy.rows st.work) (st.done ++ new ∷ []) y.row y.from) (sym z.1.1) (record { did = new; there = member-right new st.done (new ∷ []) (inl refl); index = refl; row = z.1.0 })

    pub good-next : (y : IndexTry) → Member y next → GoodTry (first_bag deploy.rows st.work) ss (space_after st touched (does x m next)) y
    good-next y n =
        let i = mk.uses_of y (hold y next n) in
        let q = image-of (λ (z : SeenRow). z.row) i.row mk.rows (has i.row (bare mk.rows) i.there) in
        let there : Member q.0 (st.store ++ st.built) = has q.0 (st.store ++ st.built) (mk.at_hand q.0 (hold q.0 mk.rows q.1.0)) in
        record {
          row = i.row;
          from = q.0.from;
          comes = subst (λ w. ComesBy (first_bag deploy.rows st.work) (st.done ++ new ∷ []) w q.0.from) (sym q.1.1) (comes-still q.0.row q.0.from (g.origin q.0 there));
          channel = has y.channel (channels i.row.part) i.channel;
          named = i.named;
        }
