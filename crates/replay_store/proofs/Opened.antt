-- One more row comes to its shards.
use Rattle.std.proofs.Common.{◌≡◌, ◌≢◌, ◌<◌, ◌+◌, ℕ, zero, suc, arith, inl, inr, length, add-one, get_or, take, All, Bool, true, false, cond, List, [], ◌∷◌, ◌++◌, map as each, refl, sym, ap, subst, ◌∙◌, append-nil, IsPermutation}
use mathlib.Core.Logic.{dite}
use native.Mathlib.Decide.{ℕ_discrete}
use Rattle.std.specs.Prelude.{◌⊎◌, Result, Ok, Err, IfOk, OnOk, filter, slice_get, Option, Some, None, IsSome, is_some}
use Rattle.std.proofs.Math.Seq.{take-suc}
use Rattle.std.proofs.lemmas.List.Elements.{All-nil, All-cons, All-append}
use Rattle.std.proofs.lemmas.List.{map-append}
use Rattle.calculus.proofs.Permutations.{join, moved_before}
use Rattle.calculus.specs.Rows.{Row}
use Rattle.events.specs.Shards.{stands_in}
use Rattle.hub_scenes.specs.Spaces.{SeenRow, Part, IndexTry, new_row, seen_in, standing_row}
use Rattle.hub_scenes.specs.Entries.{arrives, PartBecomes}
use Rattle.replay_rows.specs.Bits.{has_bit}
use Rattle.replay_slots.specs.Hands.{InHand, shard_at, IsOpened, TouchedBecome}
use Rattle.replay_store.specs.Stores.{AreAll, AreOpened, AreOpenedBelow, AreOpenedShards}

filter-append : {A : Type 0} (f : A → Bool) (xs ys : List A) → filter f (xs ++ ys) ≡ filter f xs ++ filter f ys
filter-append f [] ys = refl
filter-append f (x ∷ xs) ys = go (f x) (filter-append f xs ys)
  where
    go : (b : Bool) → filter f (xs ++ ys) ≡ filter f xs ++ filter f ys → cond b (x ∷ filter f (xs ++ ys)) (filter f (xs ++ ys)) ≡ cond b (x ∷ filter f xs) (filter f xs) ++ filter f ys
    go true e = ap (λ l. x ∷ l) e
    go false e = e

abbrev own : ℕ → List Row → List SeenRow
own k rows = filter (seen_in k) (each standing_row rows)

own-last : (k : ℕ) (rows : List Row) (r : Row) → own k (rows ++ r ∷ []) ≡ own k rows ++ own k (r ∷ [])
own-last k rows r = ap (filter (seen_in k)) (map-append standing_row rows (r ∷ [])) ∙ filter-append (seen_in k) (each standing_row rows) (each standing_row (r ∷ []))

module _ (rows : List Row) (r : Row) (k : ℕ) (x : Part) (o : IsOpened rows k x) where
  -- it comes to a shard that it stands in
  comes : (y : Part) → PartBecomes (arrives (new_row None r) []) k x y → IsOpened (rows ++ r ∷ []) k y
  comes y b = record {
    number = b.number ∙ o.number;
    rows = subst (λ l. IsPermutation l y.rows) (sym (own-last k rows r)) (join (moved_before (own k (r ∷ [])) o.rows) b.rows);
    built = b.built ∙ o.built;
  }

  -- and to no other
  stays : stands_in k r ≡ false → IsOpened (rows ++ r ∷ []) k x
  stays e = record { number = o.number; rows = subst (λ l. IsPermutation l x.rows) (sym same) o.rows; built = o.built }
    where
      same : own k (rows ++ r ∷ []) ≡ own k rows
      same = own-last k rows r ∙ ap (λ b. own k rows ++ cond b (standing_row r ∷ []) []) e ∙ append-nil (own k rows)

pub opened-more : (rows : List Row) (r : Row) (shards : ℕ) (old new : InHand) → ((k : ℕ) → has_bit shards k ≡ stands_in k r) → ((next : List IndexTry) → TouchedBecome (has_bit shards) (arrives (new_row None r) next) old new)
    → AreOpened rows old → AreOpened (rows ++ r ∷ []) new
opened-more rows r shards old new bits become h k lt = go (has_bit shards k) refl
  where
    there : (x : Part) × ((shard_at old k ≡ Some x) × IsOpened rows k x)
    there = h k lt

    go : (b : Bool) → has_bit shards k ≡ b → (x : Part) × ((shard_at new k ≡ Some x) × IsOpened (rows ++ r ∷ []) k x)
    go true e = let y = (become []).there k there.0 there.1.0 e in (y.0, (y.1, comes rows r k there.0 there.1.1 y.0 y.2))
    go false e = (there.0, ((become []).others k e ∙ there.1.0, stays rows r k there.0 there.1.1 (sym (bits k) ∙ e)))

-- one more shard is in hand
pub hand-more : (n : ℕ) (rows : List Row) (old new : InHand) (x : Part) → shard_at new n ≡ Some x → ((k : ℕ) → k ≢ n → shard_at new k ≡ shard_at old k) → IsOpened rows n x → AreOpenedBelow n rows old → AreOpenedBelow (n + 1) rows new
hand-more n rows old new x here others o h k lt =
    dite (ℕ_discrete k n)
    (λ e. (x, (ap (shard_at new) e ∙ here, subst (λ j. IsOpened rows j x) (sym e) o)))
    (λ d. let y = h k (omega (arith, lt, d)) in (y.0, (others k d ∙ y.1.0, y.1.1)))

is-some : {A : Type 0} (o : Option A) (x : A) → o ≡ Some x → IsSome o
is-some o x e = ap is_some e

pub all-there : (rows : List Row) (hand : InHand) → AreOpened rows hand → AreAll hand
all-there rows hand h k lt = let x = h k lt in is-some (shard_at hand k) x.0 x.1.0

-- an item of a list with one more at its end
pushed-at : {A : Type 0} (xs : List A) (y : A) (k : ℕ) (x : A) → slice_get (xs ++ y ∷ []) k ≡ Some x → (slice_get xs k ≡ Some x) ⊎ ((k ≡ length xs) × (y ≡ x))
pushed-at [] y zero x e = inr (refl, cc e)
pushed-at [] y (suc k) x e = cc e
pushed-at (z ∷ xs) y zero x e = inl e
pushed-at (z ∷ xs) y (suc k) x e = go (pushed-at xs y k x e)
  where
    go : (slice_get xs k ≡ Some x) ⊎ ((k ≡ length xs) × (y ≡ x)) → (slice_get (z ∷ xs) (suc k) ≡ Some x) ⊎ ((suc k ≡ suc (length xs)) × (y ≡ x))
    go (inl f) = inl f
    go (inr p) = inr (ap suc p.0, p.1)

-- one more shard is taken out of hand
pub taken-more : (hand : InHand) (xs : List Part) (y : Part) → shard_at hand (length xs) ≡ Some y → ((k : ℕ) (x : Part) → slice_get xs k ≡ Some x → shard_at hand k ≡ Some x) → (k : ℕ) (x : Part) → slice_get (xs ++ y ∷ []) k ≡ Some x → shard_at hand k ≡ Some x
taken-more hand xs y here h k x e = go (pushed-at xs y k x e)
  where
    go : (slice_get xs k ≡ Some x) ⊎ ((k ≡ length xs) × (y ≡ x)) → shard_at hand k ≡ Some x
    go (inl f) = h k x f
    go (inr p) = ap (shard_at hand) p.0 ∙ here ∙ ap Some p.1

-- a place beyond the end
low-at : {A : Type 0} (xs : List A) (k : ℕ) (x : A) → slice_get xs k ≡ Some x → k < length xs
low-at [] k x e = cc e
low-at (y ∷ xs) zero x e = omega arith
low-at (y ∷ xs) (suc k) x e = omega (arith, low-at xs k x e)

-- shards that were opened are taken out of hand
pub all-opened : (rows : List Row) (hand : InHand) (xs : List Part) → length xs ≡ 64 → AreOpened rows hand → ((k : ℕ) (x : Part) → slice_get xs k ≡ Some x → shard_at hand k ≡ Some x) → AreOpenedShards rows xs
all-opened rows hand xs n h taken k x e =
    let y = h k (omega (arith, low-at xs k x e, n)) in
    let same : Some y.0 ≡ Some x = sym y.1.0 ∙ taken k x e in
    subst (IsOpened rows k) (some-one y.0 x same) y.1.1
  where
    some-one : (a b : Part) → Some a ≡ Some b → a ≡ b
    some-one a b f = cc f

-- what follows from what was done
pub on-ok : {A E : Type 0} (x : Result A E) (P Q : Type 0) → (P → Q) → OnOk x P → OnOk x Q
on-ok (Ok a) P Q f p = f p
on-ok (Err e) P Q f p = tt

pub if-both : {A E : Type 0} (x : Result A E) (P Q S : A → Type 0) → ((a : A) → P a → Q a → S a) → IfOk x P → IfOk x Q → IfOk x S
if-both (Ok a) P Q S f p q = f a p q
if-both (Err e) P Q S f p q = tt

-- the members so far with the next one
pub take-more : {A : Type 0} (xs : List A) (i : ℕ) (x : A) → i < length xs → x ≡ get_or xs i x → take (i + 1) xs ≡ take i xs ++ x ∷ []
take-more xs i x h e = ap (λ n. take n xs) (add-one i) ∙ take-suc xs i x h ∙ ap (λ y. take i xs ++ y ∷ []) (sym e)

pub all-more : {A : Type 0} (P : A → Type 0) (xs : List A) (i : ℕ) (x : A) → i < length xs → x ≡ get_or xs i x → All P (take i xs) → P x → All P (take (i + 1) xs)
all-more P xs i x h e a p = subst (All P) (sym (take-more xs i x h e)) (All-append P (take i xs) (x ∷ []) a (All-cons P x [] p (All-nil P)))
