-- Shards in hand that lie within some places.
use Rattle.std.proofs.Common.{◌≡◌, ◌<◌, ◌≤◌, ◌+◌, ◌-◌, ℕ, zero, suc, Bool, true, false, eqb, eqb-true, eq-eqb, List, [], ◌∷◌, ◌++◌, take, drop, length, refl, sym, ap, ◌∙◌, inl, inr, arith, get_or}
use Rattle.std.specs.Prelude.{◌⊎◌, set, Option, Some, None, IsSome, option_map, slice_range}
use Rattle.hub_scenes.specs.Spaces.{Part}
use Rattle.replay_rows.specs.Rows.{part_of}
use Rattle.replay_slots.specs.Hands.{Slot, parts_of, shard_at, shown_at, all_shown, AreSlotsFiled, LieWithin}
use Rattle.replay_slots.proofs.Arriving.{no-kept}
use Rattle.replay_slots.proofs.Placing.{split, part-at, set-here, set-others}

-- where no shard lies nothing is shown
pub none-shown : (slots : List Slot) → ((k : ℕ) → shard_at (parts_of slots) k ≡ None) → all_shown (parts_of slots) ≡ []
none-shown [] h = refl
none-shown (x ∷ slots) h = ap (λ (o : Option Part). shown_at o ++ all_shown (parts_of slots)) (h zero) ∙ none-shown slots (λ k. h (suc k))

pub dropped-at : (n : ℕ) (slots : List Slot) (k : ℕ) → shard_at (parts_of (drop n slots)) k ≡ shard_at (parts_of slots) (n + k)
dropped-at zero slots k = ap (λ j. shard_at (parts_of slots) j) (plus k)
  where
    plus : (j : ℕ) → j ≡ 0 + j
    plus j = omega arith
dropped-at (suc n) [] k = refl
dropped-at (suc n) (x ∷ slots) k = dropped-at n slots k ∙ ap (λ j. shard_at (parts_of (x ∷ slots)) j) (plus n k)
  where
    plus : (m j : ℕ) → suc (m + j) ≡ suc m + j
    plus m j = omega arith

pub drop-shown : (n : ℕ) (slots : List Slot) → ((k : ℕ) → k < n → shard_at (parts_of slots) k ≡ None) → all_shown (parts_of (drop n slots)) ≡ all_shown (parts_of slots)
drop-shown zero slots h = refl
drop-shown (suc n) [] h = refl
drop-shown (suc n) (x ∷ slots) h = drop-shown n slots (λ k lt. h (suc k) (omega (arith, lt))) ∙ sym (ap (λ (o : Option Part). shown_at o ++ all_shown (parts_of slots)) (h zero (omega arith)))

pub take-shown : (n : ℕ) (slots : List Slot) → ((k : ℕ) → n ≤ k → shard_at (parts_of slots) k ≡ None) → all_shown (parts_of (take n slots)) ≡ all_shown (parts_of slots)
take-shown zero slots h = sym (none-shown slots (λ k. h k (omega arith)))
take-shown (suc n) [] h = refl
take-shown (suc n) (x ∷ slots) h = ap (λ l. shown_at (option_map part_of x) ++ l) (take-shown n slots (λ k ge. h (suc k) (omega (arith, ge))))

pub drop-filed : (n : ℕ) (slots : List Slot) → AreSlotsFiled slots → AreSlotsFiled (drop n slots)
drop-filed zero slots f = f
drop-filed (suc n) [] f = tt
drop-filed (suc n) (x ∷ slots) f = drop-filed n slots f.1

pub take-filed : (n : ℕ) (slots : List Slot) → AreSlotsFiled slots → AreSlotsFiled (take n slots)
take-filed zero slots f = tt
take-filed (suc n) [] f = tt
take-filed (suc n) (x ∷ slots) f = (f.0, take-filed n slots f.1)

-- what lies within these places shows all
pub within-shown : (low high : ℕ) (slots : List Slot) → LieWithin low high (parts_of slots) → all_shown (parts_of (slice_range slots low high)) ≡ all_shown (parts_of slots)
within-shown low high slots w =
    take-shown (high - low) (drop low slots) (λ k ge. dropped-at low slots k ∙ w (low + k) (λ a b. omega (arith, ge, b)))
    ∙ drop-shown low slots (λ k lt. w k (λ a b. omega (arith, lt, a)))

pub range-filed : (low high : ℕ) (slots : List Slot) → AreSlotsFiled slots → AreSlotsFiled (slice_range slots low high)
range-filed low high slots f = take-filed (high - low) (drop low slots) (drop-filed low slots f)

differs : true ≡ false → ⊥
differs e = cc

-- a place that shows what it did
pub set-same : (slots : List Slot) (n : ℕ) (w was : Slot) → was ≡ get_or slots n was → option_map part_of w ≡ option_map part_of was → parts_of (set slots n w) ≡ parts_of slots
set-same [] n w was e h = refl
set-same (x ∷ slots) zero w was e h = ap (λ z. z ∷ parts_of slots) (h ∙ ap (option_map part_of) e)
set-same (x ∷ slots) (suc n) w was e h = ap (λ l. option_map part_of x ∷ l) (set-same slots n w was e h)

-- a shard that is taken out
pub set-free : (low high n : ℕ) (slots : List Slot) (x : Slot) → n < length slots → x ≡ None → LieWithin low high (parts_of slots) → LieWithin low high (parts_of (set slots n x))
set-free low high n slots x h e w k out = go (eqb k n) refl
  where
    go : (b : Bool) → eqb k n ≡ b → shard_at (parts_of (set slots n x)) k ≡ None
    go true f = ap (λ j. shard_at (parts_of (set slots n x)) j) (eqb-true k n f) ∙ set-here slots n x h ∙ ap (option_map part_of) e
    go false f = set-others slots n k x (λ d. differs (sym (eq-eqb k n d) ∙ f)) ∙ w k out

-- the first places have no shard
pub risen : (low high r : ℕ) (slots : List Slot) → LieWithin low high (parts_of slots) → ((k : ℕ) → low ≤ k → k < r → k < high → get_or slots k None ≡ None) → LieWithin r high (parts_of slots)
risen low high r slots w free k out = go (split k low) (split k r) (split k high)
  where
    go : (k < low) ⊎ (low ≤ k) → (k < r) ⊎ (r ≤ k) → (k < high) ⊎ (high ≤ k) → shard_at (parts_of slots) k ≡ None
    go (inl a) b c = w k (λ d e. omega (arith, a, d))
    go (inr a) (inl b) (inl c) = part-at slots k ∙ ap (option_map part_of) (free k a b c)
    go (inr a) (inr b) (inl c) = absurd (out b c)
    go (inr a) b (inr c) = w k (λ d e. omega (arith, c, e))

-- a shard changes at its place
pub still-within : (low high n : ℕ) (old new : List Slot) → LieWithin low high (parts_of old) → IsSome (get_or old n None) → ((k : ℕ) → (k ≡ n → ⊥) → get_or new k None ≡ get_or old k None) → LieWithin low high (parts_of new)
still-within low high n old new w there others k out = go (eqb k n) refl
  where
    gone : (o : Slot) → o ≡ None → IsSome o → ⊥
    gone None e h = cc h
    gone (Some a) e h = cc e

    go : (b : Bool) → eqb k n ≡ b → shard_at (parts_of new) k ≡ None
    go true f = absurd (gone (get_or old n None) (no-kept (get_or old n None) (sym (part-at old n) ∙ ap (λ j. shard_at (parts_of old) j) (sym (eqb-true k n f)) ∙ w k out)) there)
    go false f = part-at new k ∙ ap (option_map part_of) (others k (λ d. differs (sym (eq-eqb k n d) ∙ f))) ∙ sym (part-at old k) ∙ w k out
