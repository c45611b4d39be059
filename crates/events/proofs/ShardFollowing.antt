-- What entries make of shards.
use Rattle.std.proofs.Common.{◌≡◌, ℕ, ◌+◌, ◌≤◌, Bool, true, false, cond, List, [], ◌∷◌, ◌++◌, filter, refl, sym, ap, subst, ◌∙◌, arith, inl, inr, append-nil}
use Rattle.std.specs.Prelude.{Some, None, IsPermutation}
use Rattle.std.specs.Str.{bytes_eq}
use Rattle.calculus.specs.Exchanges.{Exchanges, nothing, under, neighbours, then}
use Rattle.calculus.proofs.Permutations.{exchanges, unmoved, keep, exchange, join, moved_before}
use Rattle.calculus.proofs.Members.{Member}
use Rattle.calculus.specs.Rows.{Row}
use Rattle.calculus.specs.Steps.{is_one_of, differ}
use Rattle.events.specs.Found.{without}
use Rattle.events.proofs.Counts.{ids, times, one_if, differ-distinct, distinct-differ}
use Rattle.events.proofs.Orders.{times-moved, without-moved}
use Rattle.events.proofs.Making.{among}
use Rattle.events.specs.Shards.{stands_in, rows_in, IsProjection, changed_rows, Covers}
use Rattle.events.specs.ShardLaws.{UntouchedShardsStay, ShardsFollow, ProjectionsFollow}

module _ {A : Type 0} where
  filter-both : (f : A → Bool) (xs ys : List A) → filter f (xs ++ ys) ≡ filter f xs ++ filter f ys
  filter-both f [] ys = refl
  filter-both f (x ∷ xs) ys = go (f x) (filter-both f xs ys)
    where
      go : (b : Bool) → filter f (xs ++ ys) ≡ filter f xs ++ filter f ys → cond b (x ∷ filter f (xs ++ ys)) (filter f (xs ++ ys)) ≡ cond b (x ∷ filter f xs) (filter f xs) ++ filter f ys
      go true e = ap (λ l. x ∷ l) e
      go false e = e

  moved-filter : (f : A → Bool) {xs ys : List A} → Exchanges xs ys → IsPermutation (filter f xs) (filter f ys)
  moved-filter f nothing = unmoved []
  moved-filter f (under {xs} {ys} x h) = go (f x) (moved-filter f h)
    where
      go : (b : Bool) → IsPermutation (filter f xs) (filter f ys) → IsPermutation (cond b (x ∷ filter f xs) (filter f xs)) (cond b (x ∷ filter f ys) (filter f ys))
      go true k = keep x k
      go false k = k
  moved-filter f (neighbours x y zs) = go (f x) (f y)
    where
      go : (b c : Bool) → IsPermutation (cond b (x ∷ cond c (y ∷ filter f zs) (filter f zs)) (cond c (y ∷ filter f zs) (filter f zs))) (cond c (y ∷ cond b (x ∷ filter f zs) (filter f zs)) (cond b (x ∷ filter f zs) (filter f zs)))
      go true true = exchange x y (filter f zs)
      go true false = unmoved (x ∷ filter f zs)
      go false true = unmoved (y ∷ filter f zs)
      go false false = unmoved (filter f zs)
  moved-filter f (then h k) = join (moved-filter f h) (moved-filter f k)

  -- rows in another order are so in each shard
  pub filter-moved : (f : A → Bool) {xs ys : List A} → IsPermutation xs ys → IsPermutation (filter f xs) (filter f ys)
  filter-moved f m = moved-filter f (exchanges m)

  pub filter-none : (f : A → Bool) (xs : List A) → ((x : A) → Member x xs → f x ≡ false) → filter f xs ≡ []
  filter-none f [] h = refl
  filter-none f (x ∷ xs) h = ap (λ b. cond b (x ∷ filter f xs) (filter f xs)) (h x (inl refl)) ∙ filter-none f xs (λ y m. h y (inr m))

  -- a member of which a test holds is kept
  pub kept-in : (f : A → Bool) (xs : List A) (z : A) → Member z xs → f z ≡ true → Member z (filter f xs)
  kept-in f [] z m e = m
  kept-in f (x ∷ xs) z m e = go (kept-in f xs z) (f x) refl m
    where
      go : (Member z xs → f z ≡ true → Member z (filter f xs)) → (b : Bool) → f x ≡ b → Member z (x ∷ xs) → Member z (cond b (x ∷ filter f xs) (filter f xs))
      go next true d (inl s) = inl s
      go next true d (inr m) = inr (next m e)
      go next false d (inl s) = cc (d, e, ap f s)
      go next false d (inr m) = next m e

  -- what is kept was there, and the test holds of it
  pub kept-was : (f : A → Bool) (xs : List A) (z : A) → Member z (filter f xs) → Member z xs × (f z ≡ true)
  kept-was f [] z m = absurd m
  kept-was f (x ∷ xs) z m = go (kept-was f xs z) (f x) refl m
    where
      go : (Member z (filter f xs) → Member z xs × (f z ≡ true)) → (b : Bool) → f x ≡ b → Member z (cond b (x ∷ filter f xs) (filter f xs)) → Member z (x ∷ xs) × (f z ≡ true)
      go next true d (inl s) = (inl s, ap f s ∙ d)
      go next true d (inr m) = let k = next m in (inr k.0, k.1)
      go next false d m = let k = next m in (inr k.0, k.1)

-- rows of one shard leave as all do
left-in : (k : ℕ) (xs : List (List ℕ)) (rs : List Row) → rows_in k (without xs rs) ≡ without xs (rows_in k rs)
left-in k xs [] = refl
left-in k xs (r ∷ rs) = go (is_one_of r.id xs) refl (stands_in k r) refl (left-in k xs rs)
  where
    go : (b : Bool) → is_one_of r.id xs ≡ b → (c : Bool) → stands_in k r ≡ c → rows_in k (without xs rs) ≡ without xs (rows_in k rs)
        → rows_in k (cond b (without xs rs) (r ∷ without xs rs)) ≡ without xs (cond c (r ∷ rows_in k rs) (rows_in k rs))
    go true d true i e = e ∙ sym (ap (λ b. cond b (without xs (rows_in k rs)) (r ∷ without xs (rows_in k rs))) d)
    go true d false i e = e
    go false d true i e = ap (λ c. cond c (r ∷ rows_in k (without xs rs)) (rows_in k (without xs rs))) i ∙ ap (λ l. r ∷ l) e ∙ sym (ap (λ b. cond b (without xs (rows_in k rs)) (r ∷ without xs (rows_in k rs))) d)
    go false d false i e = ap (λ c. cond c (r ∷ rows_in k (without xs rs)) (rows_in k (without xs rs))) i ∙ e

pub shards_follow : ShardsFollow
shards_follow space o None k = filter-both (stands_in k) space.store (o ∷ [])
shards_follow space o (Some a) k = left-in k a.gone space.store

-- a row that comes or leaves stands in touched shards alone
clear : (touched : ℕ → Bool) (rows : List Row) (k : ℕ) → Covers touched rows → touched k ≡ false → (r : Row) → Member r rows → stands_in k r ≡ false
clear touched rows k c n r m = go (stands_in k r) refl
  where
    go : (b : Bool) → stands_in k r ≡ b → stands_in k r ≡ false
    go false d = d
    go true d = cc (c r k (among r rows m) d, n)

-- where none of the rows that leave stands in a shard, all stay that stand there
all-stay : (k : ℕ) (xs : List (List ℕ)) (rs : List Row) → ((r : Row) → Member r (filter (λ q. is_one_of q.id xs) rs) → stands_in k r ≡ false) → without xs (rows_in k rs) ≡ rows_in k rs
all-stay k xs [] h = refl
all-stay k xs (r ∷ rs) h = go (stands_in k r) refl (is_one_of r.id xs) refl (all-stay k xs rs (λ q m. h q (more (is_one_of r.id xs) q m)))
  where
    more : (b : Bool) (q : Row) → Member q (filter (λ z. is_one_of z.id xs) rs) → Member q (cond b (r ∷ filter (λ z. is_one_of z.id xs) rs) (filter (λ z. is_one_of z.id xs) rs))
    more true q m = inr m
    more false q m = m

    go : (c : Bool) → stands_in k r ≡ c → (b : Bool) → is_one_of r.id xs ≡ b → without xs (rows_in k rs) ≡ rows_in k rs → without xs (cond c (r ∷ rows_in k rs) (rows_in k rs)) ≡ cond c (r ∷ rows_in k rs) (rows_in k rs)
    go false i b d e = e
    go true i false d e = ap (λ b. cond b (without xs (rows_in k rs)) (r ∷ without xs (rows_in k rs))) d ∙ ap (λ l. r ∷ l) e
    go true i true d e = cc (i, h r (kept-in (λ z. is_one_of z.id xs) (r ∷ rs) r (inl refl) d))

pub untouched_shards_stay : UntouchedShardsStay
untouched_shards_stay space o None touched k c n =
    filter-both (stands_in k) space.store (o ∷ []) ∙ ap (λ l. rows_in k space.store ++ l) (filter-none (stands_in k) (o ∷ []) (clear touched (o ∷ []) k c n)) ∙ append-nil (rows_in k space.store)
untouched_shards_stay space o (Some a) touched k c n = left-in k a.gone space.store ∙ all-stay k a.gone space.store (clear touched (changed_rows space.store o (Some a)) k c n)

filter-times : (x : List ℕ) (f : Row → Bool) (rs : List Row) → times x (ids (filter f rs)) ≤ times x (ids rs)
filter-times x f [] = omega arith
filter-times x f (r ∷ rs) = go (f r) (filter-times x f rs)
  where
    go : (b : Bool) → times x (ids (filter f rs)) ≤ times x (ids rs) → times x (ids (cond b (r ∷ filter f rs) (filter f rs))) ≤ one_if (bytes_eq x r.id) + times x (ids rs)
    go true h = omega (arith, h)
    go false h = omega (arith, h)

-- no two rows of a projection have one id, where no two stored rows have
once-in : (store : List Row) (k : ℕ) (rows : List Row) → differ (ids store) ≡ true → IsProjection store k rows → differ (ids rows) ≡ true
once-in store k rows d is = distinct-differ (ids rows) (λ x. omega (arith, differ-distinct (ids store) d x, filter-times x (stands_in k) store, times-moved x is))

pub projections_follow : ProjectionsFollow
projections_follow space o None k rows later d is to = subst (λ l. IsPermutation l later) (sym (shards_follow space o None k)) (join (moved_before (rows_in k (o ∷ [])) is) to)
projections_follow space o (Some a) k rows later d is to =
    subst (λ l. IsPermutation l later) (sym (shards_follow space o (Some a) k)) (join (without-moved a.gone is) (to (once-in space.store k rows d is)))
