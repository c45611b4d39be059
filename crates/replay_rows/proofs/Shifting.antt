-- Bits of shards.
use Rattle.std.proofs.Common.{◌≡◌, ◌<◌, ◌*◌, ◌^◌, ◌%◌, ℕ, zero, suc, Bool, true, false, refl, sym, ap, ◌∙◌, arith, eqb, eqb-true, eq-eqb, bit_or, nat_lt, List, [], ◌∷◌, ◌++◌, map as each}
use Rattle.std.specs.Prelude.{◌||◌, ◌&&◌, max}
use Rattle.std.specs.Int.{bit_at}
use Rattle.std.specs.List.{list_any}
use Rattle.std.proofs.lemmas.Nat.{pow_below}
use Rattle.calculus.specs.Tree.{Tree}
use Rattle.calculus.specs.Rows.{Row, channels}
use Rattle.calculus.specs.Storing.{shard}
use Rattle.rho_term.specs.declared.term.TermBind.{TermBind}
use Rattle.std.proofs.lemmas.Nat.Bits.{bit_at_or, bit_at-zero, bit_at-pow_same, bit_at-pow_other}
use Rattle.std.proofs.lemmas.Bool.Decides.{nat_tests}
use Rattle.replay_rows.specs.Bits.{has_bit}
use Rattle.row_shards.specs.Homes.{first_shard, home}
use Rattle.events.specs.Shards.{stands_in}

binary : (n k : ℕ) → bit_at n k < 2
binary n k = omega arith

pub no-bits : (k : ℕ) → has_bit 0 k ≡ false
no-bits k = go (nat_lt k 64) (bit_at 0 k) (bit_at-zero k)
  where
    go : (b : Bool) (n : ℕ) → n ≡ 0 → b && eqb n 1 ≡ false
    go true n e = ap (λ m. eqb m 1) e
    go false n e = refl

same-bit : (a b m : ℕ) → a < 2 → b < 2 → m ≡ max a b → eqb m 1 ≡ eqb a 1 || eqb b 1
same-bit zero zero m h j e = ap (λ n. eqb n 1) e
same-bit zero (suc zero) m h j e = ap (λ n. eqb n 1) e
same-bit (suc zero) zero m h j e = ap (λ n. eqb n 1) e
same-bit (suc zero) (suc zero) m h j e = ap (λ n. eqb n 1) e
same-bit (suc (suc a)) b m h j e = absurd (omega (arith, h))
same-bit a (suc (suc b)) m h j e = absurd (omega (arith, j))

its-bit : (k i : ℕ) → eqb (bit_at (2 ^ i) k) 1 ≡ eqb k i
its-bit k i = go (eqb k i) refl
  where
    go : (b : Bool) → eqb k i ≡ b → eqb (bit_at (2 ^ i) k) 1 ≡ b
    go true e = ap (λ j. eqb (bit_at (2 ^ i) j) 1) (eqb-true k i e) ∙ ap (λ n. eqb n 1) (bit_at-pow_same i)
    go false e = ap (λ n. eqb n 1) (bit_at-pow_other i k (λ f. differs (sym (eq-eqb k i f) ∙ e)))
      where
        differs : true ≡ false → ⊥
        differs e = cc

pub one-bit-more : (n i : ℕ) → i < 64 → (m : ℕ) → m ≡ bit_or n (2 ^ i) → (k : ℕ) → has_bit m k ≡ has_bit n k || eqb k i
one-bit-more n i h m e k = go (nat_lt k 64) refl
  where
    bits : eqb (bit_at m k) 1 ≡ eqb (bit_at n k) 1 || eqb k i
    bits = ap (λ x. eqb (bit_at x k) 1) e ∙ same-bit (bit_at n k) (bit_at (2 ^ i) k) (bit_at (bit_or n (2 ^ i)) k) (binary n k) (binary (2 ^ i) k) (bit_at_or n (2 ^ i) k) ∙ ap (λ b. eqb (bit_at n k) 1 || b) (its-bit k i)

    high : nat_lt k 64 ≡ false → eqb k i ≡ false
    high f = grind (arith, nat_tests, f, h)

    go : (b : Bool) → nat_lt k 64 ≡ b → b && eqb (bit_at m k) 1 ≡ (b && eqb (bit_at n k) 1) || eqb k i
    go true f = bits
    go false f = sym (high f)

pub one-bit-only : (n i : ℕ) → i < 64 → n ≡ 2 ^ i → (k : ℕ) → has_bit n k ≡ eqb k i
one-bit-only n i h e k = go (nat_lt k 64) refl
  where
    high : nat_lt k 64 ≡ false → eqb k i ≡ false
    high f = grind (arith, nat_tests, f, h)

    go : (b : Bool) → nat_lt k 64 ≡ b → b && eqb (bit_at n k) 1 ≡ eqb k i
    go true f = ap (λ x. eqb (bit_at x k) 1) e ∙ its-bit k i
    go false f = sym (high f)

pub one-shifted : (n : ℕ) → n < 64 → 1 * 2 ^ n % 18446744073709551616 ≡ 2 ^ n
one-shifted n h = omega (arith, pow_below n 64 h)

pub low-shard : (t : Tree) → shard t < 64
low-shard t = omega arith

pub any-more : {A : Type 0} (f : A → Bool) (xs : List A) (x : A) → list_any f (xs ++ x ∷ []) ≡ list_any f xs || f x
any-more f [] x = last (f x)
  where
    last : (b : Bool) → b || false ≡ b
    last true = refl
    last false = refl
any-more f (y ∷ xs) x = ap (λ b. f y || b) (any-more f xs x) ∙ group (f y) (list_any f xs) (f x)
  where
    group : (a b c : Bool) → a || (b || c) ≡ (a || b) || c
    group true b c = refl
    group false b c = refl

pub only-one : (b : Bool) → b ≡ b || false
only-one true = refl
only-one false = refl

pub shards-each : (bs : List TermBind) → each (λ b. shard b.channel) bs ≡ each shard (each (λ b. b.channel) bs)
shards-each [] = refl
shards-each (b ∷ bs) = ap (λ l. shard b.channel ∷ l) (shards-each bs)

-- a row that stands in one shard alone has its first channel there
pub only-home : (r : Row) (n : ℕ) → ((k : ℕ) → stands_in k r ≡ eqb k n) → n ≡ home r
only-home r n = go (channels r.part)
  where
    differ : false ≡ true → ⊥
    differ e = absurd (cc)

    go : (cs : List Tree) → ((k : ℕ) → list_any (eqb k) (each shard cs) ≡ eqb k n) → n ≡ first_shard cs
    go [] h = absurd (differ (h n ∙ eq-eqb n n refl))
    go (c ∷ cs) h = sym (eqb-true (shard c) n (sym (h (shard c)) ∙ ap (λ b. b || list_any (eqb (shard c)) (each shard cs)) (eq-eqb (shard c) (shard c) refl)))
