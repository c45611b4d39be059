-- Works are dealt out to desks, with their indices.
use Rattle.std.proofs.Common.{◌≡◌, ℕ, zero, suc, ◌+◌, ◌<◌, ◌≤◌, List, [], ◌∷◌, ◌++◌, map, length, refl, sym, ap, subst, ◌∙◌, arith, length-append}
use mathlib.Core.Option.{some, some-injective, some-ne-none}
use lib.ListN.{get_elem?}
use Rattle.hub_rule.specs.declared.slot.Slot.{Slot}
use Rattle.hub_rule.specs.declared.slot.Slot.TheVariants.{Shard, Desk}
use Rattle.hub_rule.specs.Counts.{count, total, numbered, things_of, all_of, Each}
use Rattle.hub_rule.specs.Works.{AreDesks}
use Rattle.hub_rule.proofs.Sums.{each_cut, count_more}
use Rattle.hub_rule.proofs.Offers.{things_numbered}

module _ {A : Type 0} where
  -- these lists, each thing with its place among all, from the base on
  abbrev pub dealt : ℕ → List (List A) → List (List (ℕ × A))
  dealt base [] = []
  dealt base (l ∷ ls) = numbered base l ∷ dealt (base + length l) ls

  numbered_more : (base : ℕ) (xs ys : List A) → numbered base (xs ++ ys) ≡ numbered base xs ++ numbered (base + length xs) ys
  numbered_more base [] ys = let e : base ≡ base + length {A = A} [] = omega arith in ap (λ (n : ℕ). numbered n ys) e
  numbered_more base (x ∷ xs) ys =
      let e : base + 1 + length xs ≡ base + length (x ∷ xs) = omega arith in
      let r = numbered_more (base + 1) xs ys in
      ap {A = List (ℕ × A)} (λ l. (base, x) ∷ l) (r ∙ ap (λ (n : ℕ). numbered (base + 1) xs ++ numbered n ys) e)

  pub all_dealt : (base : ℕ) (ls : List (List A)) → all_of (λ l. l) (dealt base ls) ≡ numbered base (all_of (λ l. l) ls)
  all_dealt base [] = refl
  all_dealt base (l ∷ ls) = ap {A = List (ℕ × A)} (λ t. numbered base l ++ t) (all_dealt (base + length l) ls) ∙ sym (numbered_more base l (all_of (λ x. x) ls))

  pub length_dealt : (base : ℕ) (ls : List (List A)) → length (dealt base ls) ≡ length ls
  length_dealt base [] = refl
  length_dealt base (l ∷ ls) = let r = length_dealt (base + length l) ls in omega arith

  -- what holds of all that was dealt holds on each desk
  pub each_part : (P : ℕ → A → Type 0) (ls : List (List (ℕ × A))) → Each P (all_of (λ l. l) ls) → (d : ℕ) (ps : List (ℕ × A)) → get_elem? ls d ≡ some ps → Each P ps
  each_part P [] h d ps e = absurd (some-ne-none ps (sym e))
  each_part P (l ∷ ls) h zero ps e = subst (λ t. Each P t) (some-injective l ps e) (each_cut P l (all_of (λ x. x) ls) h).0
  each_part P (l ∷ ls) h (suc d) ps e = each_part P ls (each_cut P l (all_of (λ x. x) ls) h).1 d ps e

  pub part_short : (ls : List (List (ℕ × A))) (d : ℕ) (ps : List (ℕ × A)) → get_elem? ls d ≡ some ps → length ps ≤ length (all_of (λ l. l) ls)
  part_short [] d ps e = absurd (some-ne-none ps (sym e))
  part_short (l ∷ ls) zero ps e = let q = ap {A = List (ℕ × A)} length (some-injective l ps e) in let a = length-append l (all_of (λ x. x) ls) in omega arith
  part_short (l ∷ ls) (suc d) ps e = let r = part_short ls d ps e in let a = length-append l (all_of (λ x. x) ls) in omega arith

  pub count_parts : (i : ℕ) (ls : List (List (ℕ × A))) → count i (all_of (λ l. l) ls) ≡ total (count i) ls
  count_parts i [] = refl
  count_parts i (l ∷ ls) = count_more i l (all_of (λ x. x) ls) ∙ ap (λ (n : ℕ). count i l + n) (count_parts i ls)

  pub length_parts : (ls : List (List (ℕ × A))) → length (all_of (λ l. l) ls) ≡ total length ls
  length_parts [] = refl
  length_parts (l ∷ ls) = length-append l (all_of (λ x. x) ls) ∙ ap (λ (n : ℕ). length l + n) (length_parts ls)

-- the desk at a place, with what was dealt to it
pub desk_dealt : {X W : Type 0} (base : ℕ) (ls : List (List W)) (ss : List (Slot X W)) (d : ℕ) → AreDesks ls ss → d < length ls
    → (v : _) × (ps : List (ℕ × W)) × (get_elem? (map some ss) d ≡ some (some (Desk v))) × (get_elem? (dealt base ls) d ≡ some ps) × (v.items ≡ things_of ps)
desk_dealt base [] ss d h lt = absurd (omega arith)
desk_dealt base (l ∷ ls) [] d h lt = absurd h
desk_dealt base (l ∷ ls) (Shard x ∷ ss) d h lt = absurd h
desk_dealt base (l ∷ ls) (Desk v ∷ ss) zero h lt = (v, numbered base l, refl, refl, h.0 ∙ sym (things_numbered base l))
desk_dealt base (l ∷ ls) (Desk v ∷ ss) (suc d) h lt = desk_dealt (base + length l) ls ss d h.1 (omega arith)

pub desks_long : {X W : Type 0} (ls : List (List W)) (ss : List (Slot X W)) → AreDesks ls ss → length ss ≡ length ls
desks_long [] [] h = refl
desks_long [] (s ∷ ss) h = absurd h
desks_long (l ∷ ls) [] h = absurd h
desks_long (l ∷ ls) (Shard x ∷ ss) h = absurd h
desks_long (l ∷ ls) (Desk v ∷ ss) h = let r = desks_long ls ss h.1 in omega arith
