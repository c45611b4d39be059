-- Rows that are put into shards one after another.
use Rattle.std.proofs.Common.{◌≡◌, ◌≤◌, ℕ, zero, suc, ◌+◌, ◌<◌, Bool, true, false, cond, List, [], ◌∷◌, ◌++◌, get_or, length, map as each, refl, sym, ap, subst, ◌∙◌, arith}
use Rattle.std.specs.Prelude.{filter, slice_get, Some, IsPermutation}
use Rattle.std.specs.Prelude.{set}
use mathlib.Core.Logic.{dite}
use native.Mathlib.Decide.{ℕ_discrete}
use Rattle.std.proofs.lemmas.List.{get_or-set_same, get_or-set_other}
use Rattle.std.proofs.lemmas.Option.{get_or_from_slice_get, slice_get-get_or, slice_get_within}
use Rattle.std.specs.Str.{bytes_eq}
use Rattle.calculus.proofs.Permutations.{unmoved, join, keep, all_over, moved_so, moved_before}
use Rattle.calculus.specs.Rows.{Row, stdout, stdout_ack}
use Rattle.calculus.specs.Steps.{is_one_of}
use Rattle.calculus.proofs.Opened.{hashing}
use Rattle.events.proofs.Counts.{ids, one_if, times, times-append, ids-append, one_of-times, same_bytes, differ-distinct, distinct-differ}
use Rattle.events.proofs.Making.{among, member}
use Rattle.events.proofs.Orders.{times-moved, member-moved}
use Rattle.rho_term.specs.Rows.{row_of_op}
use Rattle.std.specs.Prelude.{All}
use Rattle.std.proofs.lemmas.List.Elements.{All-nil, All-cons, All-head, All-tail}
use Rattle.calculus.specs.Storing.{IsStorable}
use Rattle.rho_term.specs.declared.op.Op.{Op}
use Rattle.events.specs.Shards.{stands_in, rows_in, IsProjection}
use Rattle.shard_tables.specs.Hands.{AreShardsOf, GainsRow, IdsDiffer}
use Rattle.rspace_table.specs.Hands.{AreBuiltIns, AreEmpty}

-- fewer rows have an id no oftener
filter-times : (x : List ℕ) (f : Row → Bool) (rs : List Row) → times x (ids (filter f rs)) ≤ times x (ids rs)
filter-times x f [] = omega arith
filter-times x f (r ∷ rs) = go (f r) (filter-times x f rs)
  where
    go : (b : Bool) → times x (ids (filter f rs)) ≤ times x (ids rs) → times x (ids (cond b (r ∷ filter f rs) (filter f rs))) ≤ one_if (bytes_eq x r.id) + times x (ids rs)
    go true h = omega (arith, h)
    go false h = omega (arith, h)

last-times : (x : List ℕ) (rs : List Row) (o : Row) → times x (ids (rs ++ o ∷ [])) ≡ times x (ids rs) + one_if (bytes_eq x o.id)
last-times x rs o = ap (times x) (ids-append rs (o ∷ [])) ∙ times-append x (ids rs) (o.id ∷ []) ∙ omega arith

-- where ids differ, those before the last do
pub before-differ : (rs : List Row) (o : Row) → IdsDiffer (rs ++ o ∷ []) → IdsDiffer rs
before-differ rs o d = distinct-differ (ids rs) (λ x. omega (arith, differ-distinct (ids (rs ++ o ∷ [])) d x, last-times x rs o))

-- and the last differs from those of a shard of the others
pub last-differs : (rs : List Row) (o : Row) (f : Row → Bool) (qs : List Row) → IsPermutation (filter f rs) qs → IdsDiffer (rs ++ o ∷ []) → IdsDiffer (o ∷ qs)
last-differs rs o f qs p d =
    distinct-differ (ids (o ∷ qs)) (λ x. omega (arith, differ-distinct (ids (rs ++ o ∷ [])) d x, last-times x rs o, times-moved x p, filter-times x f rs))

filter-last : (f : Row → Bool) (rs : List Row) (o : Row) → filter f (rs ++ o ∷ []) ≡ filter f rs ++ filter f (o ∷ [])
filter-last f [] o = refl
filter-last f (r ∷ rs) o = go (f r) (filter-last f rs o)
  where
    go : (b : Bool) → filter f (rs ++ o ∷ []) ≡ filter f rs ++ filter f (o ∷ []) → cond b (r ∷ filter f (rs ++ o ∷ [])) (filter f (rs ++ o ∷ [])) ≡ cond b (r ∷ filter f rs) (filter f rs) ++ filter f (o ∷ [])
    go true e = ap (λ l. r ∷ l) e
    go false e = e

-- one more row comes to its shards
pub spread-more : (rs : List Row) (o : Row) (k : ℕ) (old new : List Row) → IsProjection rs k old → GainsRow o k old new → IdsDiffer (rs ++ o ∷ []) → IsProjection (rs ++ o ∷ []) k new
spread-more rs o k old new p g d =
    subst (λ (l : List Row). IsPermutation l new) (sym (filter-last (stands_in k) rs o))
    (join (moved_before (rows_in k (o ∷ [])) p) (g (last-differs rs o (stands_in k) old p d)))

-- shards without rows
pub empty-at : (xs : List (List Row)) (k : ℕ) (x : List Row) → AreEmpty xs → slice_get xs k ≡ Some x → x ≡ []
empty-at [] k x h e = cc e
empty-at (y ∷ xs) zero x h e = let same : y ≡ x = cc e in sym same ∙ h.0
empty-at (y ∷ xs) (suc k) x h e = empty-at xs k x h.1 e

pub empty-more : (xs : List (List Row)) (x : List Row) → AreEmpty xs → x ≡ [] → AreEmpty (xs ++ x ∷ [])
empty-more [] x h e = (e, tt)
empty-more (y ∷ xs) x h e = (h.0, empty-more xs x h.1 e)

-- one more row comes to a table
pub table-more : (rs old new : List Row) (o : Row) (added : Bool) → (IdsDiffer rs → IsPermutation rs old) → (added ≡ false → is_one_of o.id (each (λ r. r.id) old) ≡ true) → (added ≡ true → IsPermutation new (o ∷ old))
    → IdsDiffer (rs ++ o ∷ []) → IsPermutation (rs ++ o ∷ []) new
table-more rs old new o added h f g d = go added refl
  where
    p : IsPermutation rs old
    p = h (before-differ rs o d)

    once : times o.id (ids old) ≡ 0
    once = omega (arith, differ-distinct (ids (rs ++ o ∷ [])) d o.id, last-times o.id rs o, times-moved o.id p, own)
      where
        own : one_if (bytes_eq o.id o.id) ≡ 1
        own = ap one_if (same_bytes o.id o.id refl)

    go : (b : Bool) → added ≡ b → IsPermutation (rs ++ o ∷ []) new
    go false e = absurd (omega (arith, one_of-times o.id (ids old) (f e), once))
    go true e = join (all_over rs (o ∷ [])) (join (keep o p) (moved_so (g e)))

-- the built-in receivers have two ids
pub two-ids : IdsDiffer (stdout ∷ stdout_ack ∷ [])
unfolding hashing
two-ids = refl

-- a table of them has them
pub are-built-ins : (rows : List Row) → IsPermutation (stdout ∷ stdout_ack ∷ []) rows → AreBuiltIns rows
are-built-ins rows p r =
    (λ a. among r (stdout ∷ stdout_ack ∷ []) (member-moved r (moved_so p) (member r rows a)), λ a. among r rows (member-moved r p (member r (stdout ∷ stdout_ack ∷ []) a)))

-- operations whose rows may be stored
pub all-storable : (os : List Op) → All IsStorable (each row_of_op os) → All (λ o. IsStorable (row_of_op o)) os
all-storable [] b = All-nil (λ o. IsStorable (row_of_op o))
all-storable (o ∷ os) b = All-cons (λ o. IsStorable (row_of_op o)) o os (All-head IsStorable (row_of_op o) (each row_of_op os) b) (all-storable os (All-tail IsStorable (row_of_op o) (each row_of_op os) b))

-- no rows are in empty shards
pub none-spread : (xs : List (List Row)) → AreEmpty xs → AreShardsOf (λ rows. rows) [] xs
none-spread xs h k x e = subst (λ (l : List Row). IsPermutation [] l) (sym (empty-at xs k x h e)) (unmoved [])

-- one more row comes to all shards that it stands in
pub all-spread : (rs : List Row) (o : Row) (old new : List (List Row)) → length new ≡ 64 → length old ≡ 64 → (IdsDiffer rs → AreShardsOf (λ rows. rows) rs old)
    → ((k : ℕ) → k < 64 → GainsRow o k (get_or old k []) (get_or new k [])) → IdsDiffer (rs ++ o ∷ []) → AreShardsOf (λ rows. rows) (rs ++ o ∷ []) new
all-spread rs o old new e f h made d k y at =
    let lt : k < 64 = omega (arith, slice_get_within new k y at, e) in
    let x = slice_get-get_or old k [] (omega (arith, lt, f)) in
    spread-more rs o k (get_or old k []) y (h (before-differ rs o d) k (get_or old k []) x) (subst (GainsRow o k (get_or old k [])) (get_or_from_slice_get new k y [] at) (made k lt)) d

-- an item that is there, whatever stands for none
pub at-default : {A : Type 0} (xs : List A) (i : ℕ) (d e : A) → i < length xs → get_or xs i d ≡ get_or xs i e
at-default [] i d e lt = absurd (omega (arith, lt))
at-default (x ∷ xs) zero d e lt = refl
at-default (x ∷ xs) (suc i) d e lt = at-default xs i d e (omega (arith, lt))

-- a row comes to one shard after another
module _ (o : Row) (start now next : List (List Row)) (n : ℕ) (y : List Row) (is : next ≡ set now n y) (lt : n < length now) (left : (k : ℕ) → n ≤ k → get_or now k [] ≡ get_or start k []) where
  pub spread-made : GainsRow o n (get_or now n []) y → ((k : ℕ) → k < n → GainsRow o k (get_or start k []) (get_or now k [])) → (k : ℕ) → k < n + 1 → GainsRow o k (get_or start k []) (get_or next k [])
  spread-made g made k l = dite (ℕ_discrete k n)
      (λ s. let P : ℕ → Type 0 = λ j. GainsRow o j (get_or start j []) (get_or next j []) in
      subst P (sym s) (subst (λ z. GainsRow o n z (get_or next n [])) (left n (omega arith)) (subst (GainsRow o n (get_or now n [])) (sym (ap (λ l. get_or l n []) is ∙ get_or-set_same now n y [] lt)) g)))
      (λ d. subst (GainsRow o k (get_or start k [])) (sym (ap (λ l. get_or l k []) is ∙ get_or-set_other now n k y [] d)) (made k (omega (arith, l, d))))

  pub spread-left : (k : ℕ) → n + 1 ≤ k → get_or next k [] ≡ get_or start k []
  spread-left k le = ap (λ l. get_or l k []) is ∙ get_or-set_other now n k y [] (λ e. absurd (omega (arith, le, e))) ∙ left k (omega (arith, le))
