-- Groups that have all shown shards.
use Rattle.std.proofs.Common.{◌≡◌, ◌<◌, ◌≤◌, ℕ, Bool, true, false, ◌&&◌, ◌||◌, eqb, eqb-true, max, List, refl, sym, ap, ◌∙◌, arith}
use Rattle.std.specs.Int.{bit_at}
use Rattle.std.specs.Int.Bits.{bit_or}
use Rattle.std.specs.List.{list_any}
use Rattle.std.proofs.lemmas.Nat.Bits.{bit_at_or}
use Rattle.std.proofs.Math.Nat.{le-max_right}
use Rattle.calculus.specs.Rows.{Row}
use Rattle.events.specs.Shards.{stands_in}
use Rattle.events.specs.Hands.{hears, shows}
use Rattle.events.proofs.ShardStanding.{any-one, rows_stand_in_shards}
use Rattle.shard_tables.specs.Hands.{AreShown}
use Rattle.play_hub.specs.Values.{has_bit}
use Rattle.play_hub.proofs.Bits.{set-is}

both-right : (a b : Bool) → a && b ≡ true → b ≡ true
both-right true b e = e
both-right false b e = cc e

-- a shard that is shown is one of the 64
shown-low : (all : List Row) (o : Row) (k : ℕ) → shows all o k ≡ true → k < 64
shown-low all o k e = go (stands_in k o) refl e
  where
    go : (b : Bool) → stands_in k o ≡ b → b || list_any (λ r. hears r o && stands_in k r) all ≡ true → k < 64
    go true d f = rows_stand_in_shards o k d
    go false d f = let r = any-one (λ r. hears r o && stands_in k r) all f in rows_stand_in_shards r.0 k (both-right (hears r.0 o) (stands_in k r.0) r.2)

pub shown-held : (all : List Row) (o : Row) (g n : ℕ) → AreShown all o n → bit_or g n ≡ g → (k : ℕ) → shows all o k ≡ true → has_bit g k ≡ true
shown-held all o g n shown same k e =
    let lt = shown-low all o k e in
    let one : bit_at n k ≡ 1 = eqb-true (bit_at n k) 1 (shown k lt ∙ e) in
    let most : max (bit_at g k) (bit_at n k) ≡ bit_at g k = sym (bit_at_or g n k) ∙ ap (λ m. bit_at m k) same in
    set-is g k lt (λ z. no (bit_at g k) (bit_at n k) most one z)
  where
    no : (a b : ℕ) → max a b ≡ a → b ≡ 1 → a ≡ 0 → ⊥
    no a b m b1 a0 = absurd (omega (arith, m, b1, a0, le-max_right a b))
