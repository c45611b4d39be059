-- The rule at the start, and what it says at the end.
use Rattle.std.proofs.Common.{◌≡◌, ℕ, zero, suc, ◌+◌, ◌-◌, ◌*◌, ◌^◌, ◌<◌, ◌≤◌, true, false, length-append, append_assoc, append-nil, List, [], ◌∷◌, ◌++◌, map, length, get_or, replicate, refl, sym, ap, subst, ◌∙◌, arith, Some, nat_lt, ◌≢◌, inl, set, get_or-set_same, get_or-set_other}
use Rattle.std.proofs.lemmas.Bool.Decides.{nat_tests}
use Rattle.std.specs.Prelude.{slice_get}
use mathlib.Core.Option.{some, some-injective, some-ne-none}
use lib.ListN.{get_elem?}
use Rattle.atomic_table.specs.Table.{opening}
use Rattle.hub_rule.specs.declared.slot.Slot.{Slot}
use Rattle.hub_rule.specs.declared.slot.Slot.TheVariants.{Shard, Desk}
use Rattle.hub_rule.specs.declared.view.View.{View}
use Rattle.hub_rule.specs.declared.terms.Terms.{Terms}
use Rattle.hub_rule.specs.Counts.{one_if, once_below, count, numbered, things_of, all_of, Each}
use Rattle.hub_rule.specs.Meaning.{Meaning, Follows, taking}
use Rattle.std.proofs.lemmas.List.{length-map}
use Rattle.hub_rule.specs.Rule.{view, newcomer, blank, cost, cut_left, HubRule}
use Rattle.hub_rule.specs.Works.{bare, hand, Piles, AreDesks, Laid}
use Rattle.hub_rule.specs.declared.view.Pile.{Pile}
use Rattle.hub_rule.proofs.Sums.{each_to}
use Rattle.hub_rule.proofs.Offers.{count_numbered, numbered_each, length_numbered}
use Rattle.hub_rule.proofs.Deals.{dealt, all_dealt, length_dealt, each_part, part_short, count_parts, length_parts, desk_dealt, desks_long}
use Rattle.std.proofs.Math.ListN.{length-set}
use Rattle.hub_rule.proofs.Lookups.{get_some}
use Rattle.std.specs.List.{All}
use Rattle.std.proofs.lemmas.List.Elements.{All-append}

module _ {A : Type 0} where
  -- the slots of the shards stand first
  pub at_opened : {W : Type 0} (xs : List A) (more : List (Slot A W)) (k : ℕ) → k < length xs → (x : A) × (slice_get xs k ≡ Some x) × (get_elem? (map some (map (λ y. Shard (Some y)) xs ++ more)) k ≡ some (some (Shard (Some x))))
  at_opened [] more k lt = absurd (omega arith)
  at_opened (x ∷ xs) more zero lt = (x, refl, refl)
  at_opened (x ∷ xs) more (suc k) lt = at_opened xs more k (omega arith)

  -- what stands behind others
  pub get_behind : (fs bs : List A) (n d : ℕ) → length fs ≡ n → get_elem? (map some (fs ++ bs)) (d + n) ≡ get_elem? (map some bs) d
  get_behind [] bs n d long = let e : d + n ≡ d = omega arith in ap (λ k. get_elem? (map some bs) k) e
  get_behind (x ∷ fs) bs zero d long = absurd (omega arith)
  get_behind (x ∷ fs) bs (suc n) d long = let e : d + suc n ≡ suc (d + n) = omega arith in ap (λ k. get_elem? (map some (x ∷ (fs ++ bs))) k) e ∙ get_behind fs bs n d (omega arith)

  pub each_all : (P : ℕ → A → Type 0) → ((n : ℕ) (a : A) → P n a) → (ps : List (ℕ × A)) → Each P ps
  each_all P h [] = tt
  each_all P h (p ∷ ps) = (h p.0 p.1, each_all P h ps)

pub zeros : (n k : ℕ) → get_or {A = ℕ} (replicate n 0) k 0 ≡ zero
zeros zero k = refl
zeros (suc n) zero = refl
zeros (suc n) (suc k) = zeros n k

-- the words at the start: all 0 but the charged word and the pending word
abbrev pub first_words : ℕ → ℕ → List ℕ
first_words n k = set (set {A = ℕ} (replicate 800 0) 1 n) 520 k

pub spent_word : (n k : ℕ) → get_or (first_words n k) 1 0 ≡ n
spent_word n k = get_or-set_other (set {A = ℕ} (replicate 800 0) 1 n) 520 1 k 0 (λ e. omega arith) ∙ get_or-set_same (replicate 800 0) 1 n 0 (omega arith)

pub count_word : (n k : ℕ) → get_or (first_words n k) 520 0 ≡ k
count_word n k = get_or-set_same (set {A = ℕ} (replicate 800 0) 1 n) 520 k 0 (let l = length-set {A = ℕ} (replicate 800 0) 1 n in omega arith)

pub other_words : (n k i : ℕ) → i ≢ 1 → i ≢ 520 → get_or (first_words n k) i 0 ≡ 0
other_words n k i ne nf = get_or-set_other (set {A = ℕ} (replicate 800 0) 1 n) 520 i k 0 nf ∙ (get_or-set_other (replicate 800 0) 1 i n 0 ne ∙ zeros 800 i)

none_below : (n : ℕ) → 0 ≡ once_below n 0
none_below n = let b : nat_lt n 0 ≡ false = grind (arith, nat_tests) in sym (ap one_if b)

only : {A : Type 0} (P : A → Type 0) (x : A) → P x → (j : ℕ) (y : A) → get_elem? (x ∷ []) j ≡ some y → P y
only P x p zero y e = subst P (some-injective x y e) p
only P x p (suc j) y e = absurd (some-ne-none y (sym e))

module _ {X W : Type 0} (shards : List X) (works : List W) (slots : List (Slot X W)) (long : length shards ≡ 64) (laid : Laid 32 shards works slots) where
  front_long : length {A = Slot X W} (map (λ x. Shard (Some x)) shards) ≡ 64
  front_long = length-map shards (λ x. Shard (Some x)) ∙ long

  pub slots_long : length (map some slots) ≡ 96
  slots_long = let e = ap {A = List (Slot X W)} length laid.2 in let f = length-append {A = Slot X W} (map (λ x. Shard (Some x)) shards) laid.1 in let g = front_long in let h = desks_long laid.0 laid.1 laid.3 in let i = length-map slots some in let n = laid.4 in omega arith

  pub shard_at : (k : ℕ) → k < 64 → (x : X) × (slice_get shards k ≡ Some x) × (get_elem? (map some slots) k ≡ some (some (Shard (Some x))))
  shard_at k lt = let h = at_opened shards laid.1 k (omega arith) in (h.0, h.1, ap {A = List (Slot X W)} (λ l. get_elem? (map some l) k) laid.2 ∙ h.2)

  desk_behind : (d : ℕ) → get_elem? (map some slots) (d + 64) ≡ get_elem? (map some laid.1) d
  desk_behind d = ap {A = List (Slot X W)} (λ l. get_elem? (map some l) (d + 64)) laid.2 ∙ get_behind {A = Slot X W} (map (λ x. Shard (Some x)) shards) laid.1 64 d front_long

  pub desk_at : (d : ℕ) → d < 32 → (v : _) × (ps : List (ℕ × W)) × (get_elem? (map some slots) (d + 64) ≡ some (some (Desk v))) × (get_elem? (dealt 0 laid.0) d ≡ some ps) × (v.items ≡ things_of ps)
  desk_at d lt = let h = desk_dealt 0 laid.0 laid.1 d laid.3 (let n = laid.4 in omega arith) in (h.0, h.1, desk_behind d ∙ h.2, h.3, h.4)

  -- what lies on all desks
  pub all_laid : all_of (λ l. l) (dealt 0 laid.0) ≡ numbered 0 works
  all_laid = all_dealt 0 laid.0 ∙ ap {A = List W} (numbered 0) laid.5

module _ {Store E X W : Type 0} (m : Meaning Store E X W) where
  pub opens : (opened : List X × List W) (terms : Terms) (words : List ℕ) (slots : List (Slot X W)) (store : Store) → terms.seats ≤ 32 → (terms.spent < 2 ^ 62) × (terms.limit < 2 ^ 62) → length opened.0 ≡ 64 → length opened.1 ≤ 2 ^ 58
      → ((k : ℕ) (x : X) → slice_get opened.0 k ≡ Some x → m.projects store k x) → m.opens store opened.1 → length words ≡ 800 → ((k : ℕ) → k ≢ 1 → k ≢ 520 → get_or words k 0 ≡ 0) → get_or words 1 0 ≡ terms.spent → get_or words 520 0 ≡ length opened.1
      → Laid 32 opened.0 opened.1 slots → HubRule m opened terms (opening words slots (newcomer terms.seats))
  opens opened terms words slots store few low long short shown starts wide zero_at spent_at count_at laid =
      let first : List (ℕ × W) = numbered 0 opened.1 in
      let desks : List (List (ℕ × W)) = dealt 0 laid.0 in
      let all : all_of (λ l. l) desks ≡ first = all_laid opened.0 opened.1 slots long laid in
      let piles : Piles E W = (32 * terms.seats, bare) ∷ [] in
      let v : ℕ × Pile E W = (32 * terms.seats, bare) in
      let O : ℕ → W → Type 0 = λ i u. get_elem? opened.1 i ≡ some u in
      let size = slots_long opened.0 opened.1 slots long laid in
      let first_long : length first ≡ length opened.1 = length_numbered 0 opened.1 in
      record {
        store = store;
        log = [];
        wide = wide;
        long = size;
        few = few;
        opens = λ k x e. shown k x (get_some opened.0 k x e);
        starts = starts;
        legal = tt;
        turns = record {
          turn = λ k lt. zero_at (k * 8 + 8) (λ e. omega arith) (λ e. omega arith);
          one = λ k lt. omega arith;
          home = λ k lt z. let h = shard_at opened.0 opened.1 slots long laid k lt in (h.0, h.2, shown k h.0 h.1);
          idle = only (λ (y : View E X W). y.parts ≡ 0 → y.held ≡ []) (newcomer terms.seats) (λ _. refl);
          held = only (λ (y : View E X W). Each (λ k x. (k < 64) × ((z : X) → Follows m y.since k x z → m.projects store k z)) y.held) (newcomer terms.seats) tt;
        };
        draws = record {
          drawn = zero_at 0 (λ e. omega arith) (λ e. omega arith);
          numbers = only (λ (y : View E X W). Each (λ n e. get_elem? [] n ≡ some e) y.entries) (newcomer terms.seats) tt;
          once = λ n. none_below n;
          sums = refl;
          parts = omega arith;
          small = only (λ (y : View E X W). length y.entries ≤ y.parts * 2 ^ 53) (newcomer terms.seats) (omega arith);
        };
        charges = record {
          low = low;
          paid = spent_at ∙ (omega arith);
          passed = omega arith;
          small = only (λ (y : View E X W). cost m.price y.tally.fresh ≤ y.parts * 2 ^ 51) (newcomer terms.seats) (omega arith);
          idle = only (λ (y : View E X W). y.parts ≡ 0 → cost m.price y.tally.settled + cost m.price y.tally.fresh ≡ 0) (newcomer terms.seats) (λ _. refl);
          over = only (λ (y : View E X W). 0 < y.tally.over → terms.limit < get_or words 1 0) (newcomer terms.seats) (λ z. absurd (omega arith));
        };
        stops = record {
          cause = inl (zero_at 2 (λ e. omega arith) (λ e. omega arith));
          no_memory = only (λ (y : View E X W). 0 < y.tally.no_memory → get_or words 2 0 ≡ 1) (newcomer terms.seats) (λ z. absurd (omega arith));
          fault = only (λ (y : View E X W). 0 < y.tally.fault → get_or words 2 0 ≡ 2) (newcomer terms.seats) (λ z. absurd (omega arith));
        };
        desks = desks;
        places = record {
          many = length_dealt 0 laid.0 ∙ laid.4;
          turn = λ d lt. zero_at (d * 8 + 528) (λ e. omega arith) (λ e. omega arith);
          one = λ d lt. omega arith;
          home = λ d lt z. desk_at opened.0 opened.1 slots long laid d lt;
          held = only (λ (y : ℕ × Pile E W). Each (λ d ps. (d < 32) × (get_elem? desks d ≡ some ps)) y.1.desk) v tt;
          idle = only (λ (y : ℕ × Pile E W). y.0 ≡ 0 → y.1.desk ≡ []) v (λ _. refl);
        };
        works = record {
          in_hand = only (λ (y : ℕ × Pile E W). Each O (hand y.1)) v tt;
          on_desk = each_part O desks (let P : List (ℕ × W) → Type 0 = λ l. Each O l in subst P (sym all)
              (each_to (λ i u. get_elem? (([] ++ opened.1) ++ []) i ≡ some u) O (λ i u o. ap {A = List W} (λ l. get_elem? l i) (sym (append-nil opened.1)) ∙ o) first (numbered_each [] opened.1 [])));
          once = λ i.
              let a = count_numbered 0 i opened.1 in let c = none_below i in let d = count_parts i desks in let f = ap {A = List (ℕ × W)} (count i) all in
              let e : once_below i (0 + length opened.1) ≡ once_below i (length opened.1) = ap (once_below i) (omega arith) in omega arith;
          took = only (λ (y : ℕ × Pile E W). Each (λ i u. taking m i [] ≡ y.1.took) y.1.taken) v tt;
          offers = only (λ (y : ℕ × Pile E W). Each {A = W} (λ i u. taking m i [] ≡ []) y.1.offered) v tt;
          rests = λ d ps e. each_all (λ i u. taking m i [] ≡ []) (λ i u. refl) ps;
          fresh = λ i le. refl;
        };
        pending = record {
          sum = let d = length_parts desks in let f = ap {A = List (ℕ × W)} length all in omega arith;
          settled = only (λ (y : ℕ × Pile E W). y.1.owes ≡ false → y.1.counted ≡ length (hand y.1)) v (λ _. refl);
          owing = only (λ (y : ℕ × Pile E W). y.1.owes ≡ true → 0 < y.1.counted) v (λ z. absurd (let q : false ≡ true = z in cc));
          few = only (λ (y : ℕ × Pile E W). (length (hand y.1) ≤ y.0 * (2 ^ 52 + 2)) × (y.1.counted ≤ y.0 * (2 ^ 52 + 2))) v (omega arith, omega arith);
          short = λ d ps e. let r = part_short desks d ps e in let f = ap {A = List (ℕ × W)} length all in omega arith;
          empty = only (λ (y : ℕ × Pile E W). 0 < y.1.empty → get_or words 520 0 ≡ 0) v (λ z. absurd (omega arith));
          idle = only (λ (y : ℕ × Pile E W). y.0 ≡ 0 → y.1.left + y.1.fetched ≡ 0) v (λ _. refl);
          moved = let d = length_parts desks in let f = ap {A = List (ℕ × W)} length all in omega arith;
        };
      }

  pub cut_newcomer : (n : ℕ) → 0 < n → cut_left {E = E} {X = X} {W = W} (newcomer n) ≡ newcomer (n - 1)
  cut_newcomer n more = let e : 32 * n - 32 ≡ 32 * (n - 1) = omega arith in ap {A = ℕ} (λ p. view p [] [] [] blank bare) e

one_of : {A : Type 0} (P : A → Type 0) (x : A) → P x → All P (x ∷ [])
one_of P x p zero d lt = p
one_of P x p (suc k) d lt = absurd (omega arith)

pub all_push : {A : Type 0} (P : A → Type 0) (xs ys : List A) (x : A) → ys ≡ xs ++ x ∷ [] → All P xs → P x → All P ys
all_push {A} P xs ys x e all p = let Q : List A → Type 0 = λ l. All P l in subst Q (sym e) (All-append P xs (x ∷ []) all (one_of P x p))

pub all_to : {A : Type 0} (P Q : A → Type 0) → ((x : A) → P x → Q x) → (xs : List A) → All P xs → All Q xs
all_to P Q f xs all k d lt = f _ (all k d lt)

-- no desk is laid yet
pub laid_none : {X W : Type 0} (shards : List X) (slots : List (Slot X W)) → slots ≡ map (λ x. Shard (Some x)) shards → Laid 0 shards [] slots
laid_none {X} {W} shards slots is = ([], [], is ∙ sym (append-nil (map (λ x. Shard (Some x)) shards)), tt, refl, refl)

desks_more : {X W : Type 0} (ls : List (List W)) (ss : List (Slot X W)) (v : _) → AreDesks ls ss → AreDesks (ls ++ v.items ∷ []) (ss ++ Desk v ∷ [])
desks_more [] [] v h = (refl, tt)
desks_more [] (s ∷ ss) v h = absurd h
desks_more (l ∷ ls) [] v h = absurd h
desks_more (l ∷ ls) (Shard x ∷ ss) v h = absurd h
desks_more (l ∷ ls) (Desk u ∷ ss) v h = (h.0, desks_more ls ss v h.1)

all_more : {A : Type 0} (ls : List (List A)) (l : List A) → all_of (λ x. x) (ls ++ l ∷ []) ≡ all_of (λ x. x) ls ++ l
all_more [] l = append-nil l
all_more (x ∷ xs) l = ap {A = List _} (λ t. x ++ t) (all_more xs l) ∙ sym (append_assoc x (all_of (λ y. y) xs) l)

-- a further desk is laid
pub laid_more : {X W : Type 0} (number : ℕ) (shards : List X) (works : List W) (v : _) (slots slots' : List (Slot X W)) → Laid number shards works slots → slots' ≡ slots ++ Desk v ∷ [] → Laid (number + 1) shards (works ++ v.items) slots'
laid_more {X} {W} number shards works v slots slots' h more = (
  h.0 ++ v.items ∷ [],
  h.1 ++ Desk v ∷ [],
  more ∙ (ap {A = List (Slot X W)} (λ l. l ++ Desk v ∷ []) h.2 ∙ append_assoc (map (λ x. Shard (Some x)) shards) h.1 (Desk v ∷ [])),
  desks_more h.0 h.1 v h.3,
  (let a = length-append {A = List W} h.0 (v.items ∷ []) in let c = h.4 in omega arith),
  all_more h.0 v.items ∙ ap {A = List W} (λ l. l ++ v.items) h.5,
)
