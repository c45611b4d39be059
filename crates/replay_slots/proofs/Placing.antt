-- Shards in their places.
use Rattle.std.proofs.Common.{◌≡◌, ◌<◌, ◌≤◌, ◌+◌, ℕ, zero, suc, Bool, true, false, cond, List, [], ◌∷◌, ◌++◌, map as each, length, refl, sym, ap, subst, ◌∙◌, inl, inr, arith, get_or}
use Rattle.std.specs.Prelude.{◌⊎◌, set, Some, None, IsSome, option_map}
use Rattle.std.specs.Str.{bytes_eq}
use Rattle.calculus.proofs.Members.{Member, member-left, member-right}
use Rattle.hub_scenes.specs.Spaces.{SeenRow, Part}
use Rattle.replay_rows.specs.Rows.{part_of, find_seen}
use Rattle.replay_slots.specs.Hands.{InHand, Slot, parts_of, shard_at, shown_at, all_shown, AreSlotsFiled, IsSlotFiled, HasRoomAt}
use Rattle.replay_rows.proofs.Settling.{same-at}
use Rattle.replay_slots.proofs.Stepping.{UpTo, one-further, its-place, other-place}

-- one more at the end
pub pushed-at : {A : Type 0} (f : ℕ → A) (d x : A) (xs : List A) (n : ℕ) → length xs ≡ n → ((k : ℕ) → k < n → get_or xs k d ≡ f k) → x ≡ f n → (k : ℕ) → k < n + 1 → get_or (xs ++ x ∷ []) k d ≡ f k
pushed-at f d x [] n e h g zero lt = g ∙ ap f (sym e)
pushed-at f d x [] n e h g (suc k) lt = absurd (omega (arith, e, lt))
pushed-at f d x (y ∷ xs) zero e h g k lt = absurd (cc)
pushed-at f d x (y ∷ xs) (suc n) e h g zero lt = h zero (omega arith)
pushed-at f d x (y ∷ xs) (suc n) e h g (suc k) lt = pushed-at (λ j. f (suc j)) d x xs n (cc) (λ j j-lt. h (suc j) (omega (arith, j-lt))) g k (omega (arith, lt))

pub length-one-more : {A : Type 0} (xs : List A) (x : A) → length (xs ++ x ∷ []) ≡ length xs + 1
length-one-more [] x = refl
length-one-more (y ∷ xs) x = ap suc (length-one-more xs x) ∙ plus (length xs)
  where
    plus : (n : ℕ) → suc (n + 1) ≡ suc n + 1
    plus n = omega arith

-- shards are seen place by place
pub part-at : (slots : List Slot) (k : ℕ) → shard_at (parts_of slots) k ≡ option_map part_of (get_or slots k None)
part-at [] k = refl
part-at (x ∷ slots) zero = refl
part-at (x ∷ slots) (suc k) = part-at slots k

pub same-parts : (old new : List Slot) → length new ≡ length old → ((k : ℕ) → k < length old → option_map part_of (get_or new k None) ≡ option_map part_of (get_or old k None)) → parts_of new ≡ parts_of old
same-parts [] [] e h = refl
same-parts [] (y ∷ new) e h = absurd (cc)
same-parts (x ∷ old) [] e h = absurd (cc)
same-parts (x ∷ old) (y ∷ new) e h = ap (λ z. z ∷ parts_of new) (h zero (omega arith)) ∙ ap (λ l. option_map part_of x ∷ l) (same-parts old new (cc) (λ k lt. h (suc k) (omega (arith, lt))))

pub filed-at : (slots : List Slot) (k : ℕ) → AreSlotsFiled slots → IsSlotFiled (get_or slots k None)
filed-at [] k h = tt
filed-at (x ∷ slots) zero h = h.0
filed-at (x ∷ slots) (suc k) h = filed-at slots k h.1

pub all-filed : (slots : List Slot) → ((k : ℕ) → k < length slots → IsSlotFiled (get_or slots k None)) → AreSlotsFiled slots
all-filed [] h = tt
all-filed (x ∷ slots) h = (h zero (omega arith), all-filed slots (λ k lt. h (suc k) (omega (arith, lt))))

-- what a shard in hand shows is shown
pub shown-in : (hand : InHand) (k : ℕ) (q : SeenRow) → Member q (shown_at (shard_at hand k)) → Member q (all_shown hand)
shown-in [] k q m = absurd m
shown-in (x ∷ hand) zero q m = member-left q (shown_at x) (all_shown hand) m
shown-in (x ∷ hand) (suc k) q m = member-right q (shown_at x) (all_shown hand) (shown-in hand k q m)

-- the first of two lists
pub found-first-of : (x : List ℕ) (ys zs : List SeenRow) (q : SeenRow) → find_seen x ys ≡ Some q → find_seen x (ys ++ zs) ≡ Some q
found-first-of x [] zs q h = absurd (cc)
found-first-of x (y ∷ ys) zs q h =
    elim (bytes_eq x y.row.id) as (λ b. cond b (Some y) (find_seen x ys) ≡ Some q → cond b (Some y) (find_seen x (ys ++ zs)) ≡ Some q) [ true ↦ λ i. i | false ↦ λ i. found-first-of x ys zs q i ] h

pub found-second-of : (x : List ℕ) (ys zs : List SeenRow) → find_seen x ys ≡ None → find_seen x (ys ++ zs) ≡ find_seen x zs
found-second-of x [] zs h = refl
found-second-of x (y ∷ ys) zs h =
    elim (bytes_eq x y.row.id) as (λ b. cond b (Some y) (find_seen x ys) ≡ None → cond b (Some y) (find_seen x (ys ++ zs)) ≡ find_seen x zs) [ true ↦ λ i. absurd (cc) | false ↦ λ i. found-second-of x ys zs i ] h

pub split : (k n : ℕ) → (k < n) ⊎ (n ≤ k)
split k zero = inr (omega arith)
split zero (suc n) = inl (omega arith)
split (suc k) (suc n) = next (split k n)
  where
    next : (k < n) ⊎ (n ≤ k) → (suc k < suc n) ⊎ (suc n ≤ suc k)
    next (inl h) = inl (omega (arith, h))
    next (inr h) = inr (omega (arith, h))

-- a shard keeps what it shows, and gets room where it is wanted
pub record Roomed (x : List ℕ) (wanted : ℕ → Bool) (k : ℕ) (old new : Slot) : Type 0 where
  pub same : option_map part_of new ≡ option_map part_of old
  pub filed : IsSlotFiled old → IsSlotFiled new
  pub room : wanted k ≡ true → IsSome old → HasRoomAt x new

pub record Same (k : ℕ) (old new : Slot) : Type 0 where
  pub same : option_map part_of new ≡ option_map part_of old
  pub filed : IsSlotFiled old → IsSlotFiled new

pub only-same : (x : List ℕ) (wanted : ℕ → Bool) (n : ℕ) (old new : List Slot) → UpTo (Roomed x wanted) n None old new → UpTo Same n None old new
only-same x wanted n old new u = record { long = u.long; changed = λ k lt j. let r = u.changed k lt j in record { same = r.same; filed = r.filed }; rest = u.rest }

module _ (n : ℕ) (old new : List Slot) (u : UpTo Same n None old new) where
  pub same-all : parts_of new ≡ parts_of old
  same-all = same-parts old new u.long (λ k lt. go k lt (split k n))
    where
      go : (k : ℕ) → k < length old → (k < n) ⊎ (n ≤ k) → option_map part_of (get_or new k None) ≡ option_map part_of (get_or old k None)
      go k lt (inl h) = (u.changed k h lt).same
      go k lt (inr h) = ap (option_map part_of) (u.rest k h)

  pub filed-all : AreSlotsFiled old → AreSlotsFiled new
  filed-all f = all-filed new (λ k lt. go k (omega (arith, lt, u.long)) (split k n))
    where
      go : (k : ℕ) → k < length old → (k < n) ⊎ (n ≤ k) → IsSlotFiled (get_or new k None)
      go k lt (inl h) = (u.changed k h lt).filed (filed-at old k f)
      go k lt (inr h) = subst IsSlotFiled (sym (u.rest k h)) (filed-at old k f)

-- one more place that stayed the same
pub same-further : (x : List ℕ) (wanted : ℕ → Bool) (n : ℕ) (old new : List Slot) (was w : Slot) → UpTo (Roomed x wanted) n None old new → n < length old → was ≡ get_or new n was
    → option_map part_of w ≡ option_map part_of was → (IsSlotFiled was → IsSlotFiled w) → UpTo Same (n + 1) None old (set new n w)
same-further x wanted n old new was w u h e s f =
    one-further Same n None w old new (only-same x wanted n old new u) h (record { same = s ∙ ap (option_map part_of) at; filed = λ i. f (subst IsSlotFiled (sym at) i) })
  where
    at : was ≡ get_or old n None
    at = e ∙ same-at new n was None (omega (arith, h, u.long)) ∙ u.rest n (omega arith)

pub filed-set : (slots : List Slot) (n : ℕ) (w : Slot) → IsSlotFiled w → AreSlotsFiled slots → AreSlotsFiled (set slots n w)
filed-set [] n w i h = tt
filed-set (x ∷ slots) zero w i h = (i, h.1)
filed-set (x ∷ slots) (suc n) w i h = (h.0, filed-set slots n w i h.1)

pub set-here : (slots : List Slot) (n : ℕ) (w : Slot) → n < length slots → shard_at (parts_of (set slots n w)) n ≡ option_map part_of w
set-here slots n w h = part-at (set slots n w) n ∙ ap (option_map part_of) (its-place slots n w None h)

pub set-others : (slots : List Slot) (n k : ℕ) (w : Slot) → (k ≡ n → ⊥) → shard_at (parts_of (set slots n w)) k ≡ shard_at (parts_of slots) k
set-others slots n k w d = part-at (set slots n w) k ∙ ap (option_map part_of) (other-place slots n k w None d) ∙ sym (part-at slots k)

pub none-there : (slots : List Slot) → ((k : ℕ) → get_or slots k None ≡ None) → AreSlotsFiled slots
none-there slots h = all-filed slots (λ k lt. subst IsSlotFiled (sym (h k)) tt)

pub none-pushed : (slots : List Slot) → ((k : ℕ) → get_or slots k None ≡ None) → (k : ℕ) → get_or (slots ++ None ∷ []) k None ≡ None
none-pushed [] h zero = refl
none-pushed [] h (suc k) = refl
none-pushed (x ∷ slots) h zero = h zero
none-pushed (x ∷ slots) h (suc k) = none-pushed slots (λ j. h (suc j)) k

pub there-filed : (slots : List Slot) (n : ℕ) (was : Slot) → n < length slots → was ≡ get_or slots n was → AreSlotsFiled slots → IsSlotFiled was
there-filed slots n was h e f = subst IsSlotFiled (sym (e ∙ same-at slots n was None h)) (filed-at slots n f)

pub mapped-parts : (f : Part → Part) (old new : List Slot) → length new ≡ length old → ((k : ℕ) → k < length old → option_map part_of (get_or new k None) ≡ option_map f (option_map part_of (get_or old k None))) → parts_of new ≡ each (option_map f) (parts_of old)
mapped-parts f [] [] e h = refl
mapped-parts f [] (y ∷ new) e h = absurd (cc)
mapped-parts f (x ∷ old) [] e h = absurd (cc)
mapped-parts f (x ∷ old) (y ∷ new) e h = ap (λ z. z ∷ parts_of new) (h zero (omega arith)) ∙ ap (λ l. option_map f (option_map part_of x) ∷ l) (mapped-parts f old new (cc) (λ k lt. h (suc k) (omega (arith, lt))))

pub all-settled-filed : (old new : List Slot) → length new ≡ length old → ((k : ℕ) → k < length old → IsSlotFiled (get_or new k None)) → AreSlotsFiled new
all-settled-filed old new e h = all-filed new (λ k lt. h k (omega (arith, lt, e)))

pub mapped-at : (f : Part → Part) (hand : InHand) (k : ℕ) → shard_at (each (option_map f) hand) k ≡ option_map f (shard_at hand k)
mapped-at f [] k = refl
mapped-at f (x ∷ hand) zero = refl
mapped-at f (x ∷ hand) (suc k) = mapped-at f hand k
