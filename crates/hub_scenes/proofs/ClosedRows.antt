-- The rows of closed shards are those of the store.
use Rattle.std.proofs.Common.{◌≡◌, ◌≢◌, ◌≤◌, ◌<◌, ℕ, zero, suc, ◌+◌, Bool, true, false, ◌||◌, cond, List, [], ◌∷◌, ◌++◌, length, map as each, refl, sym, ap, subst, ◌∙◌, arith, inl, inr, eqb, eqb-true, eq-eqb, Some}
use Rattle.std.specs.Prelude.{filter, slice_get, IsPermutation}
use Rattle.calculus.proofs.Members.{Member}
use Rattle.calculus.proofs.Permutations.{unmoved, keep, join, over, moved_so, moved_after, moved_before}
use Rattle.calculus.specs.Tree.{Tree}
use Rattle.calculus.specs.Rows.{Row, channels}
use Rattle.calculus.specs.Storing.{shard}
use Rattle.events.proofs.Making.{among}
use Rattle.events.specs.Shards.{shards_of, stands_in, IsProjection}
use Rattle.events.proofs.ShardFollowing.{filter-moved}
use Rattle.events.proofs.ShardStanding.{stands, rows_stand_in_shards}
use Rattle.hub_scenes.specs.ClosedRows.{first_is, is_home, rows_once, ShardsHaveAllRows}

-- what one of two tests picks and what the other picks is what either picks, where none is picked by both
either-moved : {A : Type 0} (f g : A → Bool) → ((x : A) → f x ≡ true → g x ≡ false) → (xs : List A) → IsPermutation (filter f xs ++ filter g xs) (filter (λ x. f x || g x) xs)
either-moved f g apart [] = unmoved []
either-moved f g apart (x ∷ xs) = go (f x) refl (g x) refl (either-moved f g apart xs)
  where
    go : (a : Bool) → f x ≡ a → (b : Bool) → g x ≡ b → IsPermutation (filter f xs ++ filter g xs) (filter (λ x. f x || g x) xs)
        → IsPermutation (cond a (x ∷ filter f xs) (filter f xs) ++ cond b (x ∷ filter g xs) (filter g xs)) (cond (a || b) (x ∷ filter (λ x. f x || g x) xs) (filter (λ x. f x || g x) xs))
    go true d true e p = cc (e, apart x d)
    go true d false e p = keep x p
    go false d true e p = join (over x (filter f xs) (filter g xs)) (keep x p)
    go false d false e p = p

-- a test that is so of all picks all
all-picked : {A : Type 0} (f : A → Bool) (xs : List A) → ((x : A) → Member x xs → f x ≡ true) → filter f xs ≡ xs
all-picked f [] h = refl
all-picked f (x ∷ xs) h = ap (λ b. cond b (x ∷ filter f xs) (filter f xs)) (h x (inl refl)) ∙ ap (λ l. x ∷ l) (all-picked f xs (λ y m. h y (inr m)))

-- a narrower test picks the same from what a wider one picks
picked-twice : {A : Type 0} (f g : A → Bool) → ((x : A) → f x ≡ true → g x ≡ true) → (xs : List A) → filter f (filter g xs) ≡ filter f xs
picked-twice f g wide [] = refl
picked-twice f g wide (x ∷ xs) = go (f x) refl (g x) refl (picked-twice f g wide xs)
  where
    go : (a : Bool) → f x ≡ a → (b : Bool) → g x ≡ b → filter f (filter g xs) ≡ filter f xs → filter f (cond b (x ∷ filter g xs) (filter g xs)) ≡ cond a (x ∷ filter f xs) (filter f xs)
    go true d true e p = ap (λ c. cond c (x ∷ filter f (filter g xs)) (filter f (filter g xs))) d ∙ ap (λ l. x ∷ l) p
    go true d false e p = cc (e, wide x d)
    go false d true e p = ap (λ c. cond c (x ∷ filter f (filter g xs)) (filter f (filter g xs))) d ∙ p
    go false d false e p = p

-- whether the first channel of a row has one of n shards from b on
abbrev in_range : ℕ → ℕ → Row → Bool
in_range b zero r = false
in_range b (suc n) r = is_home b r || in_range (suc b) n r

-- a row has one home
one-home : (k j : ℕ) (ks : List ℕ) → first_is k ks ≡ true → first_is j ks ≡ true → k ≡ j
one-home k j [] e f = cc e
one-home k j (i ∷ is) e f = eqb-true k i e ∙ sym (eqb-true j i f)

past-home : (b c n : ℕ) (r : Row) → b < c → is_home b r ≡ true → in_range c n r ≡ false
past-home b c zero r lt h = refl
past-home b c (suc n) r lt h = go (is_home c r) refl (past-home b (suc c) n r (omega (arith, lt)) h)
  where
    go : (x : Bool) → is_home c r ≡ x → in_range (suc c) n r ≡ false → x || in_range (suc c) n r ≡ false
    go true d e = absurd (omega (arith, lt, one-home b c (shards_of r) h d))
    go false d e = e

home-ranges : (b n k : ℕ) (r : Row) → b ≤ k → k < b + n → is_home k r ≡ true → in_range b n r ≡ true
home-ranges b zero k r le lt h = absurd (omega (arith, le, lt))
home-ranges b (suc n) k r le lt h = go (λ l. home-ranges (suc b) n k r l (omega (arith, lt)) h) (is_home b r) refl
  where
    clash : true ≡ false → ⊥
    clash f = cc f

    later : is_home b r ≡ false → (y : Bool) → eqb b k ≡ y → suc b ≤ k
    later d true e = absurd (clash (sym (ap (λ i. is_home i r) (eqb-true b k e) ∙ h) ∙ d))
    later d false e = let apart : b ≢ k = λ f. cc (e, eq-eqb b k f) in omega (arith, le, apart)

    go : (suc b ≤ k → in_range (suc b) n r ≡ true) → (x : Bool) → is_home b r ≡ x → x || in_range (suc b) n r ≡ true
    go next true d = refl
    go next false d = next (later d (eqb b k) refl)

-- a row stands in its home
home-stands : (k : ℕ) (r : Row) → is_home k r ≡ true → stands_in k r ≡ true
home-stands k r h = stands k r (go (shards_of r) h)
  where
    go : (ks : List ℕ) → first_is k ks ≡ true → Member k ks
    go [] e = cc e
    go (j ∷ js) e = inl (eqb-true k j e)

-- a row with a channel has a home, below 64
has-home : (r : Row) → channels r.part ≢ [] → in_range 0 64 r ≡ true
has-home r some = go (channels r.part) refl
  where
    go : (cs : List Tree) → channels r.part ≡ cs → in_range 0 64 r ≡ true
    go [] e = absurd (some e)
    go (c ∷ cs) e =
        let h : is_home (shard c) r ≡ true = ap (λ l. first_is (shard c) (each shard l)) e ∙ eq-eqb (shard c) (shard c) refl in
        home-ranges 0 64 (shard c) r (omega arith) (rows_stand_in_shards r (shard c) (home-stands (shard c) r h)) h

ranged : (store : List Row) (b : ℕ) (shards : List (List Row)) → ((k : ℕ) (rows : List Row) → slice_get shards k ≡ Some rows → IsProjection store (b + k) rows) → IsPermutation (rows_once b shards) (filter (in_range b (length shards)) store)
ranged store b [] h = subst (IsPermutation []) (sym (none store)) (unmoved [])
  where
    none : (rs : List Row) → filter (λ r. false) rs ≡ []
    none [] = refl
    none (r ∷ rs) = none rs
ranged store b (rows ∷ shards) h = join (moved_before (rows_once (suc b) shards) own) (join (moved_after (filter (is_home b) store) (ranged store (suc b) shards more)) (either-moved (is_home b) (in_range (suc b) (length shards)) (λ r e. past-home b (suc b) (length shards) r (omega arith) e) store))
  where
    own : IsPermutation (filter (is_home b) rows) (filter (is_home b) store)
    own = subst (IsPermutation (filter (is_home b) rows)) (picked-twice (is_home b) (stands_in b) (λ r e. home-stands b r e) store)
        (moved_so (filter-moved (is_home b) (subst (λ n. IsProjection store n rows) (let e : b + 0 ≡ b = omega arith in e) (h zero rows refl))))

    more : (k : ℕ) (l : List Row) → slice_get shards k ≡ Some l → IsProjection store (suc b + k) l
    more k l g = subst (λ n. IsProjection store n l) (let e : b + suc k ≡ suc b + k = omega arith in e) (h (suc k) l g)

pub shards_have_all_rows : ShardsHaveAllRows
shards_have_all_rows store shards many are some =
    subst (IsPermutation (rows_once 0 shards)) (all-picked (in_range 0 64) store (λ r m. has-home r (some r (among r store m))))
    (subst (λ n. IsPermutation (rows_once 0 shards) (filter (in_range 0 n) store)) many (ranged store 0 shards (λ k l g. subst (λ n. IsProjection store n l) (let e : k ≡ 0 + k = omega arith in e) (are k l g))))
