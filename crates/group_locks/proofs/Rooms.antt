-- Room for what a hub leaves.
use Rattle.std.proofs.Common.{◌≡◌, ◌∙◌, ◌<◌, ◌≤◌, ◌+◌, ◌%◌, ◌^◌, ℕ, suc, List, [], length, get_or, drop, vec_capacity, Option, Result, Ok, Err, OnOk, IfOk, IfSome, sym, ap, subst, arith}
use Rattle.std.specs.Result.{result_ok}
use Rattle.hub_slots.specs.declared.room.Room.{Room}
use Rattle.hub_rule.specs.Counts.{total}
use Rattle.hub_rule.proofs.Ends.{total_next, total_past, count_step, count_start, count_end}
use Rattle.group_locks.specs.declared.state.SeatState.{SeatState}
use Rattle.group_locks.specs.Seats.{drawn_by, pile_of, Stand}
use Rattle.group_locks.specs.Ends.{CanHoldAll}

-- how many entries were counted, where so many are left to count
pub counted_first : (all : ℕ) → 0 + all ≡ all
counted_first all = omega arith

counted_more : (count n more rest left all : ℕ) → count + rest ≡ all → rest ≡ n + left → more ≡ count + n → more + left ≡ all
counted_more count n more rest left all is next sum = omega arith

counted_all : (count rest all : ℕ) → count + rest ≡ all → rest ≡ 0 → count ≡ all
counted_all count rest all is none = omega arith

-- a number modulo 2^64
pub wrapped_low : (n : ℕ) → n % 2 ^ 64 < 2 ^ 64
wrapped_low n = omega arith

next_is : (k : ℕ) → k + 1 ≡ suc k
next_is k = omega arith

module _ {A E X W : Type 0} (f : A → SeatState E X W) (ss : List A) (k : ℕ) where
  -- one seat's entries more are counted
  pub count_next : (count len more : ℕ) (s : A) → count + total (λ s. length (drawn_by (f s))) (drop k ss) ≡ total (λ s. length (drawn_by (f s))) ss → k < length ss → s ≡ get_or ss k s → len ≡ length (drawn_by (f s)) → more ≡ count + len
      → more + total (λ s. length (drawn_by (f s))) (drop (k + 1) ss) ≡ total (λ s. length (drawn_by (f s))) ss
  count_next count len more s is lt here long sum =
      let one : more ≡ count + length (drawn_by (f s)) = sum ∙ ap {A = ℕ} (λ n. count + n) long in
      counted_more count (length (drawn_by (f s))) more _ _ _ is (total_next ss (λ s. length (drawn_by (f s))) k (k + 1) s lt (next_is k) here) one

  pub count_last : (count : ℕ) → count + total (λ s. length (drawn_by (f s))) (drop k ss) ≡ total (λ s. length (drawn_by (f s))) ss → length ss ≤ k → count ≡ total (λ s. length (drawn_by (f s))) ss
  count_last count is past = counted_all count _ _ is (total_past ss (λ s. length (drawn_by (f s))) k past)

  -- so many works stand on desks, where so many more are left to count
  abbrev pub Standing : ℕ → ℕ → Type 0
  Standing start standing = (standing + total (λ s. (pile_of (f s)).fetched) ss + total (λ s. (pile_of (f s)).left) (drop k ss)) % 2 ^ 64 ≡ (start + total (λ s. (pile_of (f s)).left) ss + total (λ s. (pile_of (f s)).fetched) (drop k ss)) % 2 ^ 64

  pub standing_last : (start standing : ℕ) → Standing start standing → length ss ≤ k → Stand start f ss standing
  standing_last start standing is past =
      count_end standing start (total (λ s. (pile_of (f s)).fetched) ss) (total (λ s. (pile_of (f s)).left) ss) _ _ is (total_past ss (λ s. (pile_of (f s)).left) k past) (total_past ss (λ s. (pile_of (f s)).fetched) k past)

module _ {A E X W : Type 0} (f : A → SeatState E X W) (ss : List A) where
  pub standing_first : (start : ℕ) → Standing f ss 0 start start
  standing_first start = count_start start (total (λ s. (pile_of (f s)).fetched) ss) (total (λ s. (pile_of (f s)).left) ss)

  -- one seat's works more are counted
  pub standing_next : (k start standing : ℕ) (s : A) → Standing f ss k start standing → k < length ss → s ≡ get_or ss k s → Standing f ss (k + 1) start ((standing + (f s).moved) % 2 ^ 64)
  standing_next k start standing s is lt here =
      let fetched = λ (t : A). (pile_of (f t)).fetched in let left = λ (t : A). (pile_of (f t)).left in
      count_step standing (f s).moved start (total fetched ss) (total left ss) (fetched s) (left s) _ _ _ _ is (total_next ss fetched k (k + 1) s lt (next_is k) here) (total_next ss left k (k + 1) s lt (next_is k) here) (f s).balance

  -- what is reserved is room for all
  pub all_room : {F : Type 0} (start seats count standing : ℕ) (r : Result (Room E X W) F) (o : Option (Room E X W)) → seats ≡ length ss → count ≡ total (λ s. length (drawn_by (f s))) ss → standing < 2 ^ 64 → Stand start f ss standing
      → IfOk r (λ x. (x.drawn.items ≡ []) × (seats ≤ vec_capacity x.drawn)) → IfOk r (λ x. (length x.places.items ≡ count) × (x.entries.items ≡ []) × (count ≤ vec_capacity x.entries))
      → IfOk r (λ x. (x.shards.items ≡ []) × (64 ≤ vec_capacity x.shards)) → IfOk r (λ x. (x.left.items ≡ []) × (standing ≤ vec_capacity x.left)) → o ≡ result_ok r → IfSome o (λ x. CanHoldAll start f ss x)
  all_room start seats count standing (Ok x) o long all low stand drawn order shards left is =
      let P : Option (Room E X W) → Type 0 = λ q. IfSome q (λ y. CanHoldAll start f ss y) in
      let Q : ℕ → Type 0 = λ n. n ≤ vec_capacity x.drawn in let R : ℕ → Type 0 = λ n. n ≤ vec_capacity x.entries in
      let room : CanHoldAll start f ss x = record {
        lists = (drawn.0, subst Q long drawn.1);
        order = (order.0 ∙ all, order.1, subst R (sym order.0) order.2);
        shards = shards;
        left = (left.0, (standing, low, left.1, stand));
      } in
      subst P (sym is) room
  all_room start seats count standing (Err e) o long all low stand drawn order shards left is =
      let P : Option (Room E X W) → Type 0 = λ q. IfSome q (λ y. CanHoldAll start f ss y) in subst P (sym is) tt

-- what was reserved is room for one entry more
pub room_reserved : {U V : Type 0} (r : Result U V) (len capacity before count : ℕ) → OnOk r (len + 1 ≤ capacity) → len ≡ before → count ≡ before → count < 2 ^ 58 → OnOk r ((len < capacity) × (len < 2 ^ 58))
room_reserved (Ok u) len capacity before count fits same is few = (omega arith, omega arith)
room_reserved (Err v) len capacity before count fits same is few = tt
