-- The shards of a store, put together, are the store.
use Rattle.std.proofs.Common.{◌≡◌, ◌≢◌, ◌≤◌, ℕ, zero, suc, ◌+◌, ◌<◌, Bool, true, false, cond, ◌||◌, eqb, eqb-true, eq-eqb, List, [], ◌∷◌, ◌++◌, append-nil, length, map as each, refl, sym, ap, subst, ◌∙◌, inl, inr, arith}
use Rattle.std.specs.Prelude.{filter, slice_get, Some, IsPermutation}
use Rattle.std.specs.List.{list_any}
use Rattle.std.proofs.lemmas.List.{append_assoc}
use Rattle.calculus.proofs.Members.{Member}
use Rattle.calculus.proofs.Permutations.{unmoved, keep, join, over, moved_after, moved_before, moved_so}
use Rattle.calculus.specs.Tree.{Tree}
use Rattle.calculus.specs.Rows.{Row, channels}
use Rattle.calculus.specs.Storing.{shard}
use Rattle.events.specs.Found.{Among}
use Rattle.events.proofs.Making.{among}
use Rattle.events.specs.Shards.{stands_in, rows_in, IsProjection}
use Rattle.events.proofs.ShardFollowing.{filter-moved}
use Rattle.row_shards.specs.Homes.{first_shard, home, gathered}

not-there : true ≡ false → ⊥
not-there e = cc e

-- what is kept by one test and by another, which do not hold of one thing, is kept by either
module _ {A : Type 0} (p q : A → Bool) (apart : (x : A) → p x ≡ true → q x ≡ false) where
  parted : (xs : List A) → IsPermutation (filter p xs ++ filter q xs) (filter (λ x. p x || q x) xs)
  parted [] = unmoved []
  parted (x ∷ xs) = go (p x) refl (q x) refl (parted xs)
    where
      go : (b : Bool) → p x ≡ b → (c : Bool) → q x ≡ c → IsPermutation (filter p xs ++ filter q xs) (filter (λ y. p y || q y) xs)
          → IsPermutation (cond b (x ∷ filter p xs) (filter p xs) ++ cond c (x ∷ filter q xs) (filter q xs)) (cond (b || c) (x ∷ filter (λ y. p y || q y) xs) (filter (λ y. p y || q y) xs))
      go true e true f n = absurd (not-there (sym f ∙ apart x e))
      go true e false f n = keep x n
      go false e true f n = join (over x (filter p xs) (filter q xs)) (keep x n)
      go false e false f n = n

-- a test of what another test keeps, which holds wherever it holds
kept-twice : {A : Type 0} (p q : A → Bool) → ((x : A) → p x ≡ true → q x ≡ true) → (xs : List A) → filter p (filter q xs) ≡ filter p xs
kept-twice p q h [] = refl
kept-twice {A} p q h (x ∷ xs) = go (q x) refl (p x) refl (kept-twice p q h xs)
  where
    go : (b : Bool) → q x ≡ b → (c : Bool) → p x ≡ c → filter p (filter q xs) ≡ filter p xs → filter p (cond b (x ∷ filter q xs) (filter q xs)) ≡ cond c (x ∷ filter p xs) (filter p xs)
    go true e true f n = ap (λ d. cond d (x ∷ filter p (filter q xs)) (filter p (filter q xs))) f ∙ ap (λ l. x ∷ l) n
    go true e false f n = ap (λ d. cond d (x ∷ filter p (filter q xs)) (filter p (filter q xs))) f ∙ n
    go false e true f n = absurd (not-there (sym (h x f) ∙ e))
    go false e false f n = n

kept-whole : {A : Type 0} (p : A → Bool) (xs : List A) → ((x : A) → Member x xs → p x ≡ true) → filter p xs ≡ xs
kept-whole p [] h = refl
kept-whole p (x ∷ xs) h = ap (λ b. cond b (x ∷ filter p xs) (filter p xs)) (h x (inl refl)) ∙ ap (λ l. x ∷ l) (kept-whole p xs (λ y m. h y (inr m)))

-- whether a number is one of n from k on
abbrev within : ℕ → ℕ → ℕ → Bool
within k zero h = false
within k (suc n) h = eqb h k || within (suc k) n h

within-from : (k n h : ℕ) → within k n h ≡ true → k ≤ h
within-from k zero h e = cc e
within-from k (suc n) h e = go (within-from (suc k) n h) (eqb h k) refl e
  where
    go : (within (suc k) n h ≡ true → suc k ≤ h) → (b : Bool) → eqb h k ≡ b → b || within (suc k) n h ≡ true → k ≤ h
    go next true d f = omega (arith, eqb-true h k d)
    go next false d f = omega (arith, next f)

within-there : (k n h : ℕ) → k ≤ h → h < k + n → within k n h ≡ true
within-there k zero h a b = absurd (omega (arith, a, b))
within-there k (suc n) h a b = go (within-there (suc k) n h) (eqb h k) refl
  where
    yes : (c : Bool) → c || true ≡ true
    yes true = refl
    yes false = refl

    differ : eqb h k ≡ false → h ≢ k
    differ e f = not-there (sym (eq-eqb h k f) ∙ e)

    go : (suc k ≤ h → h < suc k + n → within (suc k) n h ≡ true) → (c : Bool) → eqb h k ≡ c → c || within (suc k) n h ≡ true
    go next true e = refl
    go next false e = next (omega (arith, a, differ e)) (omega (arith, b))

other-home : (k n h : ℕ) → eqb h k ≡ true → within (suc k) n h ≡ false
other-home k n h e = go (within (suc k) n h) refl
  where
    go : (b : Bool) → within (suc k) n h ≡ b → within (suc k) n h ≡ false
    go true d = absurd (omega (arith, within-from (suc k) n h d, eqb-true h k e))
    go false d = d

-- a row stands in the shard of its first channel
home-stands : (k : ℕ) (r : Row) → k < 64 → eqb (home r) k ≡ true → stands_in k r ≡ true
home-stands k r lt e = go (channels r.part) e
  where
    go : (cs : List Tree) → eqb (first_shard cs) k ≡ true → list_any (eqb k) (each shard cs) ≡ true
    go [] f = absurd (omega (arith, eqb-true 64 k f, lt))
    go (c ∷ cs) f = ap (λ b. b || list_any (eqb k) (each shard cs)) (eq-eqb k (shard c) (sym (eqb-true (shard c) k f)))

low-home : (cs : List Tree) → cs ≢ [] → first_shard cs < 64
low-home [] n = absurd (n refl)
low-home (c ∷ cs) n = omega arith

-- the rows that are taken out of shards of a store, which begin with the number k
taken : (store : List Row) (k : ℕ) (xs : List (List Row)) → k + length xs ≤ 64 → ((i : ℕ) (x : List Row) → slice_get xs i ≡ Some x → IsProjection store (k + i) x)
    → IsPermutation (gathered k xs) (filter (λ r. within k (length xs) (home r)) store)
taken store k [] lt h = subst (λ (l : List Row). IsPermutation [] l) (sym (none store)) (unmoved [])
  where
    none : (rs : List Row) → filter (λ r. false) rs ≡ []
    none [] = refl
    none (r ∷ rs) = none rs
taken store k (x ∷ xs) lt h =
    let own : Row → Bool = λ r. eqb (home r) k in
    let here : IsPermutation (rows_in k store) x = subst (λ n. IsProjection store n x) (omega arith) (h 0 x refl) in
    let first : IsPermutation (filter own x) (filter own store) = subst (λ (l : List Row). IsPermutation (filter own x) l) (kept-twice own (stands_in k) (λ r e. home-stands k r (omega (arith, lt)) e) store) (filter-moved own (moved_so here)) in
    let rest = taken store (suc k) xs (omega (arith, lt)) (λ i y e. subst (λ n. IsProjection store n y) (omega arith) (h (suc i) y e)) in
    join (moved_before (gathered (suc k) xs) first)
    (join (moved_after (filter own store) rest) (parted own (λ r. within (suc k) (length xs) (home r)) (λ r e. other-home k (length xs) (home r) e) store))

-- those of all 64 shards are the store, where each row has a channel
pub all-taken : (store : List Row) (xs : List (List Row)) → length xs ≡ 64 → ((k : ℕ) (x : List Row) → slice_get xs k ≡ Some x → IsProjection store k x) → ((r : Row) → Among r store → channels r.part ≢ []) → IsPermutation (gathered 0 xs) store
all-taken store xs e h c =
    subst (λ (l : List Row). IsPermutation (gathered 0 xs) l)
    (kept-whole (λ (r : Row). within 0 (length xs) (home r)) store (λ r m. within-there 0 (length xs) (home r) (omega arith) (omega (arith, e, low-home (channels r.part) (c r (among r store m))))))
    (taken store 0 xs (omega (arith, e)) (λ i x f. subst (λ n. IsProjection store n x) (omega arith) (h i x f)))

-- one more shard
pub gathered-more : (k : ℕ) (xs : List (List Row)) (x : List Row) → gathered k (xs ++ x ∷ []) ≡ gathered k xs ++ filter (λ r. eqb (home r) (k + length xs)) x
gathered-more k [] x = append-nil (filter (λ r. eqb (home r) k) x) ∙ ap (λ n. filter (λ (r : Row). eqb (home r) n) x) (zero-more k)
  where
    zero-more : (n : ℕ) → n ≡ n + 0
    zero-more n = omega arith
gathered-more k (y ∷ xs) x =
    ap (λ l. filter (λ (r : Row). eqb (home r) k) y ++ l) (gathered-more (suc k) xs x ∙ ap (λ n. gathered (suc k) xs ++ filter (λ (r : Row). eqb (home r) n) x) (omega arith))
    ∙ sym (append_assoc (filter (λ (r : Row). eqb (home r) k) y) (gathered (suc k) xs) (filter (λ r. eqb (home r) (k + suc (length xs))) x))
