-- What an arrival makes of the shards in hand.
use Rattle.std.proofs.Common.{◌≡◌, ◌<◌, ◌≤◌, ℕ, zero, suc, Bool, true, false, cond, List, [], ◌∷◌, ◌++◌, length, refl, sym, ap, subst, ◌∙◌, inl, inr, arith, eqb-true, eq-eqb, get_or, nat_lt, IsPermutation}
use Rattle.std.specs.Prelude.{◌⊎◌, ◌&&◌, eqb, Option, Some, None, IsSome, option_map}
use Rattle.std.specs.Int.{bit_at}
use Rattle.std.proofs.lemmas.Bool.Decides.{nat_tests}
use Rattle.calculus.specs.Rows.{Row}
use Rattle.events.specs.Shards.{stands_in}
use Rattle.hub_scenes.specs.Spaces.{SeenRow, Part, IndexTry, new_row, arrived}
use Rattle.hub_scenes.specs.Entries.{arrives, PartBecomes}
use Rattle.replay_space.specs.declared.seen.Seen.{Seen}
use Rattle.replay_rows.specs.declared.kept.Kept.{Kept}
use Rattle.replay_rows.specs.Rows.{part_of, arrived_seen, filed_rows}
use Rattle.replay_rows.specs.Bits.{has_bit}
use Rattle.replay_slots.specs.Hands.{InHand, Slot, parts_of, shard_at, GainsRow, GainsSeen, HasRoomAt, TouchedBecome, IsSlotFiled, AreSlotsFiled}
use Rattle.replay_slots.proofs.Placing.{part-at, split, all-filed, filed-at}

past : {A : Type 0} (l : List A) (k : ℕ) (d : A) → length l ≤ k → get_or l k d ≡ d
past [] k d h = refl
past (x ∷ l) zero d h = absurd (omega (arith, h))
past (x ∷ l) (suc k) d h = past l k d (omega (arith, h))

high-bit : (n k : ℕ) → 64 ≤ k → has_bit n k ≡ false
high-bit n k h = ap (λ b. b && eqb (bit_at n k) 1) none
  where
    none : nat_lt k 64 ≡ false
    none = grind (arith, nat_tests, h)

differs : true ≡ false → ⊥
differs e = cc

nothing : {A : Type 0} (x : A) → None ≡ Some x → ⊥
nothing x e = cc e

-- a shard that is seen is there
pub kept-of : (slot : Slot) (x : Part) → option_map part_of slot ≡ Some x → (a : Kept) × ((slot ≡ Some a) × (part_of a ≡ x))
kept-of None x e = absurd (nothing x e)
kept-of (Some a) x e = (a, (refl, cc e))

pub no-kept : (slot : Slot) → option_map part_of slot ≡ None → slot ≡ None
no-kept None e = refl
no-kept (Some a) e = absurd (nothing (part_of a) (sym e))

pub is-there : (slot : Slot) → IsSome (option_map part_of slot) → IsSome slot
is-there None h = h
is-there (Some a) h = refl

module _ (row : Row) (from : Option ℕ) (shards : ℕ) (copies : List (Option (Seen Row))) (many : length copies ≡ 64) (are : (k : ℕ) → k < 64 → get_or copies k None ≡ cond (has_bit shards k) (Some (arrived_seen row from)) None) where
  pub copy-at : (k : ℕ) → get_or copies k None ≡ cond (has_bit shards k) (Some (arrived_seen row from)) None
  copy-at k = go (split k 64)
    where
      go : (k < 64) ⊎ (64 ≤ k) → get_or copies k None ≡ cond (has_bit shards k) (Some (arrived_seen row from)) None
      go (inl h) = are k h
      go (inr h) = past copies k None (omega (arith, h, many)) ∙ ap (λ b. cond b (Some (arrived_seen row from)) None) (sym (high-bit shards k h))

  module _ (old mid : List Slot) (held : (k : ℕ) → has_bit shards k ≡ true → IsSome (shard_at (parts_of old) k)) where
    -- there is room for each copy
    pub rooms : (x : List ℕ) → x ≡ row.id → ((k : ℕ) → k < 64 → has_bit shards k ≡ true → IsSome (get_or old k None) → HasRoomAt x (get_or mid k None)) → (k : ℕ) (s : Seen Row) → get_or copies k None ≡ Some s → HasRoomAt s.row.id (get_or mid k None)
    rooms x same room k s e = go (has_bit shards k) refl (sym (copy-at k) ∙ e)
      where
        low : (b : Bool) → has_bit shards k ≡ b → b ≡ true → (k < 64) ⊎ (64 ≤ k) → k < 64
        low b f g (inl h) = h
        low b f g (inr h) = absurd (differs (sym (f ∙ g) ∙ high-bit shards k h))

        go : (b : Bool) → has_bit shards k ≡ b → cond b (Some (arrived_seen row from)) None ≡ Some s → HasRoomAt s.row.id (get_or mid k None)
        go true f g =
            let one : arrived_seen row from ≡ s = cc g in
            subst (λ (z : Seen Row). HasRoomAt z.row.id (get_or mid k None)) one
            (subst (λ y. HasRoomAt y (get_or mid k None)) same (room k (low true f refl (split k 64)) f (is-there (get_or old k None) (subst IsSome (part-at old k) (held k f)))))
        go false f g = absurd (nothing s g)

    module _ (new : List Slot) (agrees : (k : ℕ) → has_bit shards k ≡ stands_in k row) (same : parts_of mid ≡ parts_of old) (put : (k : ℕ) → GainsRow (get_or copies k None) (get_or mid k None) (get_or new k None)) (next : List IndexTry) where
      as-before : (k : ℕ) → option_map part_of (get_or mid k None) ≡ shard_at (parts_of old) k
      as-before k = sym (part-at mid k) ∙ ap (λ (h : InHand). shard_at h k) same

      unchanged : (k : ℕ) → has_bit shards k ≡ false → shard_at (parts_of new) k ≡ shard_at (parts_of old) k
      unchanged k f = part-at new k ∙ ap (option_map part_of) (subst (λ (o : Option (Seen Row)). GainsRow o (get_or mid k None) (get_or new k None)) (copy-at k ∙ ap (λ b. cond b (Some (arrived_seen row from)) None) f) (put k)) ∙ as-before k

      gained : (k : ℕ) (x : Part) (a : Kept) → part_of a ≡ x → has_bit shards k ≡ true → (y : Slot) → GainsRow (Some (arrived_seen row from)) (Some a) y → (z : Part) × (option_map part_of y ≡ Some z) × PartBecomes (arrives (new_row from row) next) k x z
      gained k x a e f y g = (
        part_of g.0,
        ap (option_map part_of) g.1,
        subst (λ (w : Part). PartBecomes (arrives (new_row from row) next) k w (part_of g.0)) e (record {
          number = g.2.number;
          rows = subst (λ (l : List SeenRow). IsPermutation (filed_rows a.rows.entries ++ l) (filed_rows g.0.rows.entries)) (sym (ap (λ b. cond b (arrived (new_row from row) ∷ []) []) (sym (agrees k) ∙ f))) g.2.rows;
          built = g.2.built;
        }),
      )

      pub all-arrived : TouchedBecome (has_bit shards) (arrives (new_row from row) next) (parts_of old) (parts_of new)
      all-arrived = record { there = there; others = unchanged; absent = absent }
        where
          there : (k : ℕ) (x : Part) → shard_at (parts_of old) k ≡ Some x → has_bit shards k ≡ true → (y : Part) × (shard_at (parts_of new) k ≡ Some y) × PartBecomes (arrives (new_row from row) next) k x y
          there k x e f =
              let a = kept-of (get_or mid k None) x (as-before k ∙ e) in
              let g = gained k x a.0 a.1.1 f (get_or new k None)
              (subst (λ (s : Slot). GainsRow (Some (arrived_seen row from)) s (get_or new k None)) a.1.0
              (subst (λ (o : Option (Seen Row)). GainsRow o (get_or mid k None) (get_or new k None)) (copy-at k ∙ ap (λ b. cond b (Some (arrived_seen row from)) None) f) (put k))) in
              (g.0, part-at new k ∙ g.1, g.2)

          absent : (k : ℕ) → shard_at (parts_of old) k ≡ None → shard_at (parts_of new) k ≡ None
          absent k e = unchanged k (go (has_bit shards k) refl) ∙ e
            where
              go : (b : Bool) → has_bit shards k ≡ b → b ≡ false
              go false f = refl
              go true f = absurd (none (shard_at (parts_of old) k) e (held k f))
                where
                  none : (o : Option Part) → o ≡ None → IsSome o → ⊥
                  none None n h = cc h
                  none (Some x) n h = nothing x (sym n)

gains-filed : (o : Option (Seen Row)) (x y : Slot) → GainsRow o x y → IsSlotFiled x → IsSlotFiled y
gains-filed None x y g f = subst IsSlotFiled (sym g) f
gains-filed (Some s) None y g f = absurd g
gains-filed (Some s) (Some a) y g f = subst IsSlotFiled (sym g.1) (g.2.filed f)

pub all-gained-filed : (copies : List (Option (Seen Row))) (mid new : List Slot) → ((k : ℕ) → GainsRow (get_or copies k None) (get_or mid k None) (get_or new k None)) → AreSlotsFiled mid → AreSlotsFiled new
all-gained-filed copies mid new put f = all-filed new (λ k lt. gains-filed (get_or copies k None) (get_or mid k None) (get_or new k None) (put k) (filed-at mid k f))

-- a row that arrives in one shard
module _ (row : Row) (from : Option ℕ) (shards n : ℕ) (only : (k : ℕ) → has_bit shards k ≡ eqb k n) (agrees : (k : ℕ) → has_bit shards k ≡ stands_in k row) (next : List IndexTry) where
  its-gain : (k : ℕ) (x : Part) (a : Kept) → part_of a ≡ x → has_bit shards k ≡ true → (y : Slot) → GainsRow (Some (arrived_seen row from)) (Some a) y → (z : Part) × (option_map part_of y ≡ Some z) × PartBecomes (arrives (new_row from row) next) k x z
  its-gain k x a e f y g = (
    part_of g.0,
    ap (option_map part_of) g.1,
    subst (λ (w : Part). PartBecomes (arrives (new_row from row) next) k w (part_of g.0)) e (record {
      number = g.2.number;
      rows = subst (λ (l : List SeenRow). IsPermutation (filed_rows a.rows.entries ++ l) (filed_rows g.0.rows.entries)) (sym (ap (λ b. cond b (arrived (new_row from row) ∷ []) []) (sym (agrees k) ∙ f))) g.2.rows;
      built = g.2.built;
    }),
  )

  pub one-arrived : (old new : List Slot) → IsSome (get_or old n None) → GainsSeen (arrived_seen row from) (get_or old n None) (get_or new n None) → ((k : ℕ) → (k ≡ n → ⊥) → get_or new k None ≡ get_or old k None) → TouchedBecome (has_bit shards) (arrives (new_row from row) next) (parts_of old) (parts_of new)
  one-arrived old new here gains others = record {
    there = there;
    others = λ k f. stays k (λ d. differs (sym (only k ∙ eq-eqb k n d) ∙ f));
    absent = λ k e. stays k (λ d. gone (get_or old n None) (no-kept (get_or old n None) (sym (part-at old n) ∙ ap (λ j. shard_at (parts_of old) j) (sym d) ∙ e)) here) ∙ e;
  }
    where
      gone : (o : Slot) → o ≡ None → IsSome o → ⊥
      gone None e h = cc h
      gone (Some a) e h = cc e

      stays : (k : ℕ) → (k ≡ n → ⊥) → shard_at (parts_of new) k ≡ shard_at (parts_of old) k
      stays k d = part-at new k ∙ ap (option_map part_of) (others k d) ∙ sym (part-at old k)

      there : (k : ℕ) (x : Part) → shard_at (parts_of old) k ≡ Some x → has_bit shards k ≡ true → (y : Part) × (shard_at (parts_of new) k ≡ Some y) × PartBecomes (arrives (new_row from row) next) k x y
      there k x e f =
          let at = eqb-true k n (sym (only k) ∙ f) in
          let a = kept-of gains.0 x (gains.1 ∙ sym (part-at old n) ∙ ap (λ j. shard_at (parts_of old) j) (sym at) ∙ e) in
          let g = its-gain k x a.0 a.1.1 f (get_or new n None) (subst (λ (s : Slot). GainsRow (Some (arrived_seen row from)) s (get_or new n None)) a.1.0 gains.2) in
          (g.0, ap (λ j. shard_at (parts_of new) j) at ∙ part-at new n ∙ g.1, g.2)
