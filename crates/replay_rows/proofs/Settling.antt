-- What a step makes of the rows of a shard, id by id.
use Rattle.std.proofs.Common.{◌≡◌, ◌<◌, ℕ, zero, suc, ◌+◌, Bool, true, false, cond, List, [], ◌∷◌, ◌++◌, map as each, take, get_or, length, refl, sym, ap, ◌∙◌, inl, inr, arith}
use Rattle.std.specs.Prelude.{◌||◌, flat_map, not}
use Rattle.std.specs.Str.{bytes_eq}
use Rattle.std.proofs.lemmas.Grind.{flat_map-append}
use Rattle.calculus.proofs.Members.{Member}
use Rattle.calculus.specs.declared.ids.Digest.{Digest}
use Rattle.calculus.specs.Log.{Step}
use Rattle.calculus.specs.Steps.{is_one_of}
use Rattle.racing_replays.specs.Replaying.{names}
use Rattle.hub_scenes.specs.Spaces.{SeenRow}
use Rattle.hub_scenes.specs.Entries.{counted, left_of}
use Rattle.replay_space.proofs.Filed.{mapped-more}
use Rattle.replay_rows.specs.Rows.{id_of, once_more, settled, counted_in, stays_from}
use Rattle.replay_rows.proofs.Filing.{is-same, same-id}

differs : true ≡ false → ⊥
differs e = cc

pub one-of-more : (x : List ℕ) (ids : List (List ℕ)) (y : List ℕ) → is_one_of x (ids ++ y ∷ []) ≡ is_one_of x ids || bytes_eq x y
one-of-more x [] y = go (bytes_eq x y)
  where
    go : (b : Bool) → b || false ≡ b
    go true = refl
    go false = refl
one-of-more x (z ∷ ids) y = go (bytes_eq x z) (one-of-more x ids y)
  where
    go : (b : Bool) → is_one_of x (ids ++ y ∷ []) ≡ is_one_of x ids || bytes_eq x y → b || is_one_of x (ids ++ y ∷ []) ≡ (b || is_one_of x ids) || bytes_eq x y
    go true e = refl
    go false e = e

either-way : (x y : List ℕ) → bytes_eq x y ≡ bytes_eq y x
either-way x y = go (bytes_eq x y) (bytes_eq y x) refl refl
  where
    go : (b c : Bool) → bytes_eq x y ≡ b → bytes_eq y x ≡ c → bytes_eq x y ≡ bytes_eq y x
    go true true e f = e ∙ sym f
    go false false e f = e ∙ sym f
    go true false e f = absurd (differs (sym (is-same y x (sym (same-id x y e))) ∙ f))
    go false true e f = absurd (differs (sym (is-same x y (sym (same-id y x f))) ∙ e))

module _ (x : List ℕ) (ids : List (List ℕ)) where
  -- one more id of rows that leave
  pub left-more : (qs : List SeenRow) → flat_map (settled x true) (flat_map (stays_from ids) qs) ≡ flat_map (stays_from (ids ++ x ∷ [])) qs
  left-more [] = refl
  left-more (q ∷ qs) = flat_map-append (settled x true) (stays_from ids q) (flat_map (stays_from ids) qs) ∙ go (is_one_of q.row.id ids) refl (left-more qs)
    where
      one : (b : Bool) → is_one_of q.row.id ids ≡ b → is_one_of q.row.id (ids ++ x ∷ []) ≡ b || bytes_eq x q.row.id
      one b e = one-of-more q.row.id ids x ∙ ap (λ c. c || bytes_eq q.row.id x) e ∙ ap (λ c. b || c) (either-way q.row.id x)

      last : (c : Bool) → cond c [] (q ∷ []) ++ [] ≡ cond c [] (q ∷ [])
      last true = refl
      last false = refl

      go : (b : Bool) → is_one_of q.row.id ids ≡ b → flat_map (settled x true) (flat_map (stays_from ids) qs) ≡ flat_map (stays_from (ids ++ x ∷ [])) qs
          → flat_map (settled x true) (cond b [] (q ∷ [])) ++ flat_map (settled x true) (flat_map (stays_from ids) qs) ≡ cond (is_one_of q.row.id (ids ++ x ∷ [])) [] (q ∷ []) ++ flat_map (stays_from (ids ++ x ∷ [])) qs
      go true e h = h ∙ ap (λ c. cond c [] (q ∷ []) ++ flat_map (stays_from (ids ++ x ∷ [])) qs) (sym (one true e))
      go false e h =
          ap (λ l. l ++ flat_map (settled x true) (flat_map (stays_from ids) qs)) (last (bytes_eq x q.row.id)) ∙ ap (λ l. cond (bytes_eq x q.row.id) [] (q ∷ []) ++ l) h
          ∙ ap (λ c. cond c [] (q ∷ []) ++ flat_map (stays_from (ids ++ x ∷ [])) qs) (sym (one false e))

  -- one more id that is named
  pub counted-more : is_one_of x ids ≡ false → (qs : List SeenRow) → flat_map (settled x false) (each (counted_in ids) qs) ≡ each (counted_in (ids ++ x ∷ [])) qs
  counted-more n [] = refl
  counted-more n (q ∷ qs) = ap (λ l. settled x false (counted_in ids q) ++ l) (counted-more n qs) ∙ ap (λ l. l ++ each (counted_in (ids ++ x ∷ [])) qs) (go (bytes_eq x q.row.id) refl)
    where
      named : (b : Bool) → bytes_eq x q.row.id ≡ b → is_one_of q.row.id (ids ++ x ∷ []) ≡ is_one_of q.row.id ids || b
      named b e = one-of-more q.row.id ids x ∙ ap (λ c. is_one_of q.row.id ids || c) (either-way q.row.id x ∙ e)

      or-false : (b : Bool) → b || false ≡ b
      or-false true = refl
      or-false false = refl

      go : (b : Bool) → bytes_eq x q.row.id ≡ b → cond b (once_more (counted_in ids q) ∷ []) (counted_in ids q ∷ []) ≡ counted_in (ids ++ x ∷ []) q ∷ []
      go true e =
          let none : is_one_of q.row.id ids ≡ false = ap (λ y. is_one_of y ids) (sym (same-id x q.row.id e)) ∙ n in
          ap (λ (c : Bool). record { row = q.row; from = q.from; done = suc (cond c (suc q.done) q.done) } ∷ []) none
          ∙ ap (λ (c : Bool). record { row = q.row; from = q.from; done = cond c (suc q.done) q.done } ∷ []) (sym (named true e ∙ ap (λ c. c || true) none))
      go false e = ap (λ (c : Bool). record { row = q.row; from = q.from; done = cond c (suc q.done) q.done } ∷ []) (sym (named false e ∙ or-false (is_one_of q.row.id ids)))

  -- one that was named before
  pub counted-again : is_one_of x ids ≡ true → (qs : List SeenRow) → each (counted_in ids) qs ≡ each (counted_in (ids ++ x ∷ [])) qs
  counted-again t [] = refl
  counted-again t (q ∷ qs) = ap (λ z. z ∷ each (counted_in ids) qs) (ap (λ (c : Bool). record { row = q.row; from = q.from; done = cond c (suc q.done) q.done }) (sym (one-of-more q.row.id ids x ∙ go (bytes_eq q.row.id x) refl))) ∙ ap (λ l. counted_in (ids ++ x ∷ []) q ∷ l) (counted-again t qs)
    where
      or-false : (b : Bool) → b || false ≡ b
      or-false true = refl
      or-false false = refl

      go : (b : Bool) → bytes_eq q.row.id x ≡ b → is_one_of q.row.id ids || b ≡ is_one_of q.row.id ids
      go true e = ap (λ c. c || true) (ap (λ y. is_one_of y ids) (same-id q.row.id x e) ∙ t) ∙ sym (ap (λ y. is_one_of y ids) (same-id q.row.id x e) ∙ t)
      go false e = or-false (is_one_of q.row.id ids)

  -- a row that is not named yet is as it was
  pub uncounted : is_one_of x ids ≡ false → (q : SeenRow) (qs : List SeenRow) → Member q (each (counted_in ids) qs) → x ≡ id_of q → Member q qs
  uncounted n q [] m e = absurd m
  uncounted n q (z ∷ qs) (inl f) e =
      let same : is_one_of z.row.id ids ≡ false = ap (λ (w : SeenRow). is_one_of w.row.id ids) (sym f) ∙ ap (λ y. is_one_of y ids) (sym e) ∙ n in
      inl (f ∙ ap (λ (c : Bool). record { row = z.row; from = z.from; done = cond c (suc z.done) z.done }) same)
  uncounted n q (z ∷ qs) (inr m) e = inr (uncounted n q qs m e)

-- what stays is counted
pub left-counted : (s : Step) (gone : List (List ℕ)) (qs : List SeenRow) → each (counted_in (names s)) (flat_map (stays_from gone) qs) ≡ flat_map (left_of s gone) qs
left-counted s gone [] = refl
left-counted s gone (q ∷ qs) = go (is_one_of q.row.id gone) (left-counted s gone qs)
  where
    go : (b : Bool) → each (counted_in (names s)) (flat_map (stays_from gone) qs) ≡ flat_map (left_of s gone) qs → each (counted_in (names s)) (cond b [] (q ∷ []) ++ flat_map (stays_from gone) qs) ≡ cond b [] (counted s q ∷ []) ++ flat_map (left_of s gone) qs
    go true h = h
    go false h = ap (λ l. counted s q ∷ l) h

pub stays-all : (qs : List SeenRow) → flat_map (stays_from []) qs ≡ qs
stays-all [] = refl
stays-all (q ∷ qs) = ap (λ l. q ∷ l) (stays-all qs)

pub counts-none : (qs : List SeenRow) → each (counted_in []) qs ≡ qs
counts-none [] = refl
counts-none (q ∷ qs) = ap (λ l. q ∷ l) (counts-none qs)

pub stayed : (gone : List (List ℕ)) (q : SeenRow) (qs : List SeenRow) → Member q (flat_map (stays_from gone) qs) → Member q qs
stayed gone q [] m = absurd m
stayed gone q (z ∷ qs) m = go (is_one_of z.row.id gone) (stayed gone q qs) m
  where
    go : (b : Bool) → (Member q (flat_map (stays_from gone) qs) → Member q qs) → Member q (cond b [] (z ∷ []) ++ flat_map (stays_from gone) qs) → Member q (z ∷ qs)
    go true next m = inr (next m)
    go false next (inl e) = inl e
    go false next (inr m) = inr (next m)

pub not-true : (b : Bool) → not b ≡ true → b ≡ false
not-true true e = absurd (cc)
not-true false e = refl

-- the next id of a step is counted, if it was not named before
pub next-counted : (b : Bool) (t : List ℕ) (ids : List (List ℕ)) (qs rows : List SeenRow) → b ≡ is_one_of t ids → rows ≡ each (counted_in ids) qs → cond (not b) (flat_map (settled t false) rows) rows ≡ each (counted_in (ids ++ t ∷ [])) qs
next-counted true t ids qs rows e r = r ∙ counted-again t ids (sym e) qs
next-counted false t ids qs rows e r = ap (flat_map (settled t false)) r ∙ counted-more t ids (sym e) qs

pub first-counted : (t : List ℕ) (qs : List SeenRow) → flat_map (settled t false) qs ≡ each (counted_in (t ∷ [])) qs
first-counted t qs = ap (flat_map (settled t false)) (sym (counts-none qs)) ∙ counted-more t [] refl qs

-- the place past a list tells nothing of its members
pub same-at : {A : Type 0} (l : List A) (i : ℕ) (a b : A) → i < length l → get_or l i a ≡ get_or l i b
same-at [] i a b h = absurd (omega (arith, h))
same-at (x ∷ l) zero a b h = refl
same-at (x ∷ l) (suc i) a b h = same-at l i a b (omega (arith, h))

pub named-at : (ds : List Digest) (i : ℕ) (d : Digest) → i < length ds → is_one_of (get_or ds i d).0 (each (λ (z : Digest). z.0) ds) ≡ true
named-at [] i d h = absurd (omega (arith, h))
named-at (x ∷ ds) zero d h = ap (λ b. b || is_one_of x.0 (each (λ (z : Digest). z.0) ds)) (is-same x.0 x.0 refl)
named-at (x ∷ ds) (suc i) d h = ap (λ b. bytes_eq (get_or ds i d).0 x.0 || b) (named-at ds i d (omega (arith, h))) ∙ either-true (bytes_eq (get_or ds i d).0 x.0)
  where
    either-true : (b : Bool) → b || true ≡ true
    either-true true = refl
    either-true false = refl

pub or-true : (b : Bool) → b || true ≡ true
or-true true = refl
or-true false = refl

-- one more of the rows that leave
pub taken-more : (gone : List Digest) (i : ℕ) (d : Digest) → i < length gone → (old rows later : List SeenRow) → rows ≡ flat_map (stays_from (each (λ (z : Digest). z.0) (take i gone))) old
    → later ≡ flat_map (settled (get_or gone i d).0 true) rows → later ≡ flat_map (stays_from (each (λ (z : Digest). z.0) (take (i + 1) gone))) old
taken-more gone i d h old rows later e f =
    f ∙ ap (flat_map (settled (get_or gone i d).0 true)) e ∙ left-more (get_or gone i d).0 (each (λ (z : Digest). z.0) (take i gone)) old
    ∙ ap (λ (ids : List (List ℕ)). flat_map (stays_from ids) old) (sym (mapped-more (λ (z : Digest). z.0) gone i d h))
