-- The pending word under the rule, where one pile changes.
use Rattle.std.proofs.Common.{◌≡◌, ℕ, ◌+◌, ◌-◌, ◌*◌, ◌%◌, ◌^◌, ◌<◌, ◌≤◌, true, false, List, [], ◌∷◌, ◌++◌, length, set, refl, sym, ◌∙◌, arith, ⊎_elim, suc, suc-mul}
use mathlib.Core.Option.{some}
use lib.ListN.{get_elem?}
use Rattle.hub_rule.specs.declared.view.Pile.{Pile}
use Rattle.hub_rule.specs.Counts.{total}
use Rattle.hub_rule.specs.Works.{pile, hand, Piles, PendRule}
use Rattle.hub_rule.specs.Rule.{tells_of}
use Rattle.hub_rule.proofs.Sums.{of_set, total_set, total_same, total_at, total_le, total_times}
use Rattle.hub_rule.proofs.Offers.{truth}

-- a list of lists that are at most so long
pub total_short : {A : Type 0} (most : ℕ) (ls : List (List A)) → ((d : ℕ) (l : List A) → get_elem? ls d ≡ some l → length l ≤ most) → total length ls ≤ length ls * most
total_short most [] h = omega arith
total_short most (l ∷ ls) h = let a = h 0 l refl in let r = total_short most ls (λ d. h (suc d)) in let s : suc (length ls) * most ≡ length ls * most + most = suc-mul (length ls) most in omega arith

module _ {E W : Type 0} (opened pending : ℕ) (desks : List (List (ℕ × W))) (piles : Piles E W) (id n : ℕ) (p : Pile E W) (at : get_elem? piles id ≡ some (n, p)) (b : PendRule opened pending desks piles) where
  -- where the hand and what is counted stay
  pub pend_look : (took : List E) (desk : List (ℕ × List (ℕ × W))) (empty : ℕ) → (0 < empty → pending ≡ 0)
      → PendRule opened pending desks (set piles id (n, pile p.kept p.taken p.offered took p.counted p.owes desk empty p.left p.fetched))
  pend_look took desk empty end =
      let w : ℕ × Pile E W = (n, pile p.kept p.taken p.offered took p.counted p.owes desk empty p.left p.fetched) in
      record {
        sum = let a = total_same (λ (y : ℕ × Pile E W). y.1.counted) piles id (n, p) w at refl in let c = b.sum in omega arith;
        settled = of_set (λ (y : ℕ × Pile E W). y.1.owes ≡ false → y.1.counted ≡ length (hand y.1)) piles id w (b.settled id (n, p) at) b.settled;
        owing = of_set (λ (y : ℕ × Pile E W). y.1.owes ≡ true → 0 < y.1.counted) piles id w (b.owing id (n, p) at) b.owing;
        few = of_set (λ (y : ℕ × Pile E W). (length (hand y.1) ≤ y.0 * (2 ^ 52 + 2)) × (y.1.counted ≤ y.0 * (2 ^ 52 + 2))) piles id w (b.few id (n, p) at) b.few;
        short = b.short;
        empty = of_set (λ (y : ℕ × Pile E W). 0 < y.1.empty → pending ≡ 0) piles id w end b.empty;
        idle = of_set (λ (y : ℕ × Pile E W). y.0 ≡ 0 → y.1.left + y.1.fetched ≡ 0) piles id w (b.idle id (n, p) at) b.idle;
        moved = let a = total_same (λ (y : ℕ × Pile E W). y.1.fetched) piles id (n, p) w at refl in let c = total_same (λ (y : ℕ × Pile E W). y.1.left) piles id (n, p) w at refl in let d = b.moved in omega arith;
      }

  -- an entry is drawn: the seat owes from now on
  pub pend_draw : (taken offered : List (ℕ × W)) (took : List E) → p.owes ≡ false → 0 < length (hand p) → length (p.kept ++ (taken ++ offered)) ≤ n * (2 ^ 52 + 2)
      → PendRule opened pending desks (set piles id (n, pile p.kept taken offered took p.counted true p.desk p.empty p.left p.fetched))
  pend_draw taken offered took calm more small =
      let w : ℕ × Pile E W = (n, pile p.kept taken offered took p.counted true p.desk p.empty p.left p.fetched) in
      record {
        sum = let a = total_same (λ (y : ℕ × Pile E W). y.1.counted) piles id (n, p) w at refl in let c = b.sum in omega arith;
        settled = of_set (λ (y : ℕ × Pile E W). y.1.owes ≡ false → y.1.counted ≡ length (hand y.1)) piles id w (λ z. absurd (let q : true ≡ false = z in cc)) b.settled;
        owing = of_set (λ (y : ℕ × Pile E W). y.1.owes ≡ true → 0 < y.1.counted) piles id w (λ z. let e = b.settled id (n, p) at calm in omega arith) b.owing;
        few = of_set (λ (y : ℕ × Pile E W). (length (hand y.1) ≤ y.0 * (2 ^ 52 + 2)) × (y.1.counted ≤ y.0 * (2 ^ 52 + 2))) piles id w (small, (b.few id (n, p) at).1) b.few;
        short = b.short;
        empty = of_set (λ (y : ℕ × Pile E W). 0 < y.1.empty → pending ≡ 0) piles id w (b.empty id (n, p) at) b.empty;
        idle = of_set (λ (y : ℕ × Pile E W). y.0 ≡ 0 → y.1.left + y.1.fetched ≡ 0) piles id w (b.idle id (n, p) at) b.idle;
        moved = let a = total_same (λ (y : ℕ × Pile E W). y.1.fetched) piles id (n, p) w at refl in let c = total_same (λ (y : ℕ × Pile E W). y.1.left) piles id (n, p) w at refl in let d = b.moved in omega arith;
      }

  -- what all piles and desks hold is bounded
  bounded : (piles' : Piles E W) → total (λ (y : ℕ × Pile E W). y.0) piles' ≤ 1024 → length desks ≡ 32 → ((j : ℕ) (y : ℕ × Pile E W) → get_elem? piles' j ≡ some y → (length (hand y.1) ≤ y.0 * (2 ^ 52 + 2)) × (y.1.counted ≤ y.0 * (2 ^ 52 + 2)))
      → total length desks + total (λ (y : ℕ × Pile E W). y.1.counted) piles' < 2 ^ 64
  bounded piles' parts many few =
      let a = total_le (λ (y : ℕ × Pile E W). y.1.counted) (λ (y : ℕ × Pile E W). y.0 * (2 ^ 52 + 2)) piles' (λ j y bt. (few j y bt).1) in
      let c = total_times (λ (y : ℕ × Pile E W). y.0) (2 ^ 52 + 2) piles' in
      let d = total_short (2 ^ 58) desks b.short in omega arith

  -- one addition, modulo 2^64, tells the pending word what is owed, whether that is more or less
  pub pend_tell : (k : ℕ) → p.owes ≡ true → k ≡ (length (hand p) + (2 ^ 64 - p.counted)) % 2 ^ 64 → total (λ (y : ℕ × Pile E W). y.0) piles ≤ 1024 → length desks ≡ 32
      → PendRule opened ((pending + k) % 2 ^ 64) desks (set piles id (n, tells_of p))
  pend_tell k owes is parts many =
      let w : ℕ × Pile E W = (n, tells_of p) in
      let few : (j : ℕ) (y : ℕ × Pile E W) → get_elem? (set piles id w) j ≡ some y → (length (hand y.1) ≤ y.0 * (2 ^ 52 + 2)) × (y.1.counted ≤ y.0 * (2 ^ 52 + 2)) =
      of_set (λ (y : ℕ × Pile E W). (length (hand y.1) ≤ y.0 * (2 ^ 52 + 2)) × (y.1.counted ≤ y.0 * (2 ^ 52 + 2))) piles id w ((b.few id (n, p) at).0, (b.few id (n, p) at).0) b.few in
      let here = total_at (λ (y : ℕ × Pile E W). y.1.counted) piles id (n, p) at in
      let s = total_set (λ (y : ℕ × Pile E W). y.1.counted) piles id (n, p) w at in
      let old = bounded piles parts many b.few in
      let new = bounded (set piles id w) (let q = total_same (λ (y : ℕ × Pile E W). y.0) piles id (n, p) w at refl in omega arith) many few in
      let sum = b.sum in
      let some_counted = b.owing id (n, p) at owes in
      let h : ℕ = length (hand p) in let c : ℕ = p.counted in
      let next : (pending + k) % 2 ^ 64 ≡ (pending - c) + h = omega arith in
      record {
        sum = omega arith;
        settled = of_set (λ (y : ℕ × Pile E W). y.1.owes ≡ false → y.1.counted ≡ length (hand y.1)) piles id w (λ z. refl) b.settled;
        owing = of_set (λ (y : ℕ × Pile E W). y.1.owes ≡ true → 0 < y.1.counted) piles id w (λ z. absurd (let q : false ≡ true = z in cc)) b.owing;
        few = few;
        short = b.short;
        empty = of_set (λ (y : ℕ × Pile E W). 0 < y.1.empty → (pending + k) % 2 ^ 64 ≡ 0) piles id w (λ z. absurd (let q = b.empty id (n, p) at z in omega arith)) (λ j u bt z. absurd (let q = b.empty j u bt z in omega arith));
        idle = of_set (λ (y : ℕ × Pile E W). y.0 ≡ 0 → y.1.left + y.1.fetched ≡ 0) piles id w (b.idle id (n, p) at) b.idle;
        moved = let a = total_same (λ (y : ℕ × Pile E W). y.1.fetched) piles id (n, p) w at refl in let d = total_same (λ (y : ℕ × Pile E W). y.1.left) piles id (n, p) w at refl in let f = b.moved in omega arith;
      }

  -- where the word is 0, nothing lies on a desk, and the seat has nothing
  pub nothing_left : pending ≡ 0 → (total length desks ≡ 0) × (length (hand p) ≡ 0)
  nothing_left z =
      let here = total_at (λ (y : ℕ × Pile E W). y.1.counted) piles id (n, p) at in let s = b.sum in
      let calm : p.owes ≡ false = ⊎_elim (λ yes. absurd (let o = b.owing id (n, p) at yes in omega arith)) (λ no. no) (truth p.owes) in
      let e = b.settled id (n, p) at calm in (omega arith, omega arith)

  -- works are taken from the desk k
  pub pend_fetch : (k x : ℕ) (q : Pile E W) (ps qs : List (ℕ × W)) → get_elem? desks k ≡ some ps → length ps ≡ length qs + x → length (hand q) ≡ length (hand p) + x → q.counted ≡ p.counted + x → q.owes ≡ p.owes → q.empty ≡ p.empty → q.left ≡ p.left → q.fetched ≡ p.fetched + x
      → p.owes ≡ false → 0 < n → length (hand q) ≤ n * (2 ^ 52 + 2) → PendRule opened pending (set desks k qs) (set piles id (n, q))
  pend_fetch k x q ps qs lies less hands counted owes empty left fetched calm part small =
      let w : ℕ × Pile E W = (n, q) in
      let e = b.settled id (n, p) at calm in
      record {
        sum = let a = total_set (λ (y : ℕ × Pile E W). y.1.counted) piles id (n, p) w at in let c = total_set length desks k ps qs lies in let d = b.sum in omega arith;
        settled = of_set (λ (y : ℕ × Pile E W). y.1.owes ≡ false → y.1.counted ≡ length (hand y.1)) piles id w (λ z. omega arith) b.settled;
        owing = of_set (λ (y : ℕ × Pile E W). y.1.owes ≡ true → 0 < y.1.counted) piles id w (λ z. let o = b.owing id (n, p) at (sym owes ∙ z) in omega arith) b.owing;
        few = of_set (λ (y : ℕ × Pile E W). (length (hand y.1) ≤ y.0 * (2 ^ 52 + 2)) × (y.1.counted ≤ y.0 * (2 ^ 52 + 2))) piles id w (small, omega arith) b.few;
        short = of_set (λ l. length l ≤ 2 ^ 58) desks k qs (let s = b.short k ps lies in omega arith) b.short;
        empty = of_set (λ (y : ℕ × Pile E W). 0 < y.1.empty → pending ≡ 0) piles id w (λ z. b.empty id (n, p) at (let f = empty in omega arith)) b.empty;
        idle = of_set (λ (y : ℕ × Pile E W). y.0 ≡ 0 → y.1.left + y.1.fetched ≡ 0) piles id w (λ z. absurd (omega arith)) b.idle;
        moved = let a = total_set (λ (y : ℕ × Pile E W). y.1.fetched) piles id (n, p) w at in let c = total_same (λ (y : ℕ × Pile E W). y.1.left) piles id (n, p) w at left in let d = total_set length desks k ps qs lies in let f = b.moved in omega arith;
      }

  -- works are left on the desk k
  pub pend_leave : (k x : ℕ) (q : Pile E W) (ps qs : List (ℕ × W)) → get_elem? desks k ≡ some ps → length qs ≡ length ps + x → length qs ≤ 2 ^ 58 → length (hand p) ≡ length (hand q) + x → q.counted ≡ p.counted - x → q.owes ≡ false → q.empty ≡ p.empty → q.left ≡ p.left + x → q.fetched ≡ p.fetched
      → p.owes ≡ false → 0 < n → PendRule opened pending (set desks k qs) (set piles id (n, q))
  pend_leave k x q ps qs lies more short hands counted owes empty left fetched calm part =
      let w : ℕ × Pile E W = (n, q) in
      let e = b.settled id (n, p) at calm in
      record {
        sum = let a = total_set (λ (y : ℕ × Pile E W). y.1.counted) piles id (n, p) w at in let c = total_set length desks k ps qs lies in let d = b.sum in omega arith;
        settled = of_set (λ (y : ℕ × Pile E W). y.1.owes ≡ false → y.1.counted ≡ length (hand y.1)) piles id w (λ z. omega arith) b.settled;
        owing = of_set (λ (y : ℕ × Pile E W). y.1.owes ≡ true → 0 < y.1.counted) piles id w (λ z. absurd (let f : true ≡ false = sym z ∙ owes in cc)) b.owing;
        few = of_set (λ (y : ℕ × Pile E W). (length (hand y.1) ≤ y.0 * (2 ^ 52 + 2)) × (y.1.counted ≤ y.0 * (2 ^ 52 + 2))) piles id w (let f = b.few id (n, p) at in (omega arith, omega arith)) b.few;
        short = of_set (λ l. length l ≤ 2 ^ 58) desks k qs short b.short;
        empty = of_set (λ (y : ℕ × Pile E W). 0 < y.1.empty → pending ≡ 0) piles id w (λ z. b.empty id (n, p) at (let f = empty in omega arith)) b.empty;
        idle = of_set (λ (y : ℕ × Pile E W). y.0 ≡ 0 → y.1.left + y.1.fetched ≡ 0) piles id w (λ z. absurd (omega arith)) b.idle;
        moved = let a = total_set (λ (y : ℕ × Pile E W). y.1.left) piles id (n, p) w at in let c = total_same (λ (y : ℕ × Pile E W). y.1.fetched) piles id (n, p) w at fetched in let d = total_set length desks k ps qs lies in let f = b.moved in omega arith;
      }
