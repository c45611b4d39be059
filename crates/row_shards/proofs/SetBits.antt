-- Bits of numbers.
use Rattle.std.proofs.Common.{◌≡◌, ℕ, zero, suc, ◌+◌, ◌*◌, ◌^◌, ◌%◌, ◌<◌, Bool, true, false, ◌||◌, List, [], ◌∷◌, length, get_or, take, max, refl, sym, ap, ◌∙◌, arith, eqb, eq-eqb, ne_eqb, subst}
use mathlib.Core.Logic.{dite}
use native.Mathlib.Decide.{ℕ_discrete}
use Rattle.std.specs.Int.{bit_at}
use Rattle.std.specs.Int.Bits.{bit_or}
use Rattle.std.specs.List.{list_any}
use Rattle.std.proofs.lemmas.List.Folds.{list_any_more}
use Rattle.std.proofs.lemmas.Nat.{one_shl}
use Rattle.std.proofs.lemmas.Nat.Bits.{bit_at-zero, bit_at-lt, bit_at_or, bit_at-pow_same, bit_at-pow_other}
use Rattle.calculus.specs.Tree.{Tree}
use Rattle.calculus.specs.Storing.{shard}
use Rattle.shard_counts.specs.Bits.{AreBits, AreBitsBeside}

-- no bit is set
pub no-bits : AreBits (λ k. false) 0
no-bits k lt = ap (λ n. eqb n 1) (bit_at-zero k)

either : (a b : ℕ) → a < 2 → b < 2 → eqb (max a b) 1 ≡ eqb a 1 || eqb b 1
either zero zero h i = refl
either zero (suc zero) h i = refl
either (suc zero) zero h i = refl
either (suc zero) (suc zero) h i = refl
either (suc (suc a)) b h i = absurd (omega (arith, h))
either zero (suc (suc b)) h i = absurd (omega (arith, i))
either (suc zero) (suc (suc b)) h i = absurd (omega (arith, i))

-- the bits of two numbers
pub or-bits : (f g : ℕ → Bool) (m n : ℕ) → AreBits f m → AreBits g n → AreBits (λ k. f k || g k) (bit_or m n)
or-bits f g m n h i k lt =
    ap (λ b. eqb b 1) (bit_at_or m n k) ∙ either (bit_at m k) (bit_at n k) (bit_at-lt m k) (bit_at-lt n k)
    ∙ ap (λ c. c || eqb (bit_at n k) 1) (h k lt) ∙ ap (λ c. f k || c) (i k lt)

-- one bit
pub one-bit : (s : ℕ) → s < 64 → AreBits (λ k. eqb k s) (2 ^ s)
one-bit s lt k lk = dite (ℕ_discrete k s)
    (λ e. let P : ℕ → Type 0 = λ j. eqb (bit_at (2 ^ s) j) 1 ≡ eqb j s in subst P (sym e) (ap (λ b. eqb b 1) (bit_at-pow_same s) ∙ sym (eq-eqb s s refl)))
    (λ ne. ap (λ b. eqb b 1) (bit_at-pow_other s k ne) ∙ sym (ne_eqb k s ne))

-- a shard is low
pub low-shard : (c : Tree) (s : ℕ) → s ≡ shard c → s < 64
low-shard c s e = subst (λ n. n < 64) (sym e) (omega arith)

-- the bit of a channel's shard
pub shifted-bit : (c : Tree) (s : ℕ) → s ≡ shard c → AreBits (λ k. eqb k (shard c)) (1 * 2 ^ s % 2 ^ 64)
shifted-bit c s e k lk =
    ap (λ n. eqb (bit_at n k) 1) (one_shl s 64 (low-shard c s e)) ∙ one-bit s (low-shard c s e) k lk ∙ ap (eqb k) e

-- the same bits, said in another way
pub same-bits : (f g : ℕ → Bool) (n : ℕ) → ((k : ℕ) → f k ≡ g k) → AreBits f n → AreBits g n
same-bits f g n e h k lt = h k lt ∙ e k

pub or-none : (b : Bool) → b || false ≡ b
or-none true = refl
or-none false = refl

again : (a b c : Bool) → (a || b) || c ≡ a || (b || c)
again true b c = refl
again false b c = refl

-- what holds of none holds of no one
not-one : {A : Type 0} (f : A → Bool) (xs : List A) (i : ℕ) (d : A) → i < length xs → list_any f xs ≡ false → f (get_or xs i d) ≡ false
not-one f [] i d lt e = absurd (omega arith)
not-one f (x ∷ xs) zero d lt e = left (f x) (list_any f xs) e
  where
    left : (a b : Bool) → a || b ≡ false → a ≡ false
    left true b z = cc z
    left false b z = refl
not-one f (x ∷ xs) (suc i) d lt e = not-one f xs i d (omega arith) (right (f x) (list_any f xs) e)
  where
    right : (a b : Bool) → a || b ≡ false → b ≡ false
    right true b z = cc z
    right false b z = z

-- the bits of one more thing
pub more-bits : {A : Type 0} (f : ℕ → Bool) (p : A → ℕ → Bool) (xs : List A) (i : ℕ) (d : A) (m n : ℕ) → i < length xs
    → AreBits (λ k. f k || list_any (λ x. p x k) (take i xs)) m → AreBits (p (get_or xs i d)) n → AreBits (λ k. f k || list_any (λ x. p x k) (take (i + 1) xs)) (bit_or m n)
more-bits f p xs i d m n lt h j k lk =
    or-bits (λ q. f q || list_any (λ x. p x q) (take i xs)) (p (get_or xs i d)) m n h j k lk
    ∙ again (f k) (list_any (λ x. p x k) (take i xs)) (p (get_or xs i d) k)
    ∙ ap (λ b. f k || b) (sym (list_any_more (λ x. p x k) xs i d lt))

-- the same, but at places of one's own
pub beside-more : {A : Type 0} (own p : A → ℕ → Bool) (xs : List A) (i : ℕ) (d : A) (m n : ℕ) → i < length xs
    → AreBitsBeside (λ k. list_any (λ x. own x k) xs) (λ k. list_any (λ x. p x k) (take i xs)) m → AreBitsBeside (own (get_or xs i d)) (p (get_or xs i d)) n
    → AreBitsBeside (λ k. list_any (λ x. own x k) xs) (λ k. list_any (λ x. p x k) (take (i + 1) xs)) (bit_or m n)
beside-more own p xs i d m n lt h j k lk o =
    ap (λ b. eqb b 1) (bit_at_or m n k) ∙ either (bit_at m k) (bit_at n k) (bit_at-lt m k) (bit_at-lt n k)
    ∙ ap (λ c. c || eqb (bit_at n k) 1) (h k lk o) ∙ ap (λ c. list_any (λ x. p x k) (take i xs) || c) (j k lk (not-one (λ x. own x k) xs i d lt o))
    ∙ sym (list_any_more (λ x. p x k) xs i d lt)

-- bits that say nothing of places that are set already
pub beside-on : {A : Type 0} (f : ℕ → Bool) (p : A → ℕ → Bool) (xs : List A) (i : ℕ) (d : A) (m n : ℕ) → i < length xs
    → AreBits (λ k. f k || list_any (λ x. p x k) (take i xs)) m → AreBitsBeside f (p (get_or xs i d)) n → AreBits (λ k. f k || list_any (λ x. p x k) (take (i + 1) xs)) (bit_or m n)
beside-on f p xs i d m n lt h j k lk =
    ap (λ b. eqb b 1) (bit_at_or m n k) ∙ either (bit_at m k) (bit_at n k) (bit_at-lt m k) (bit_at-lt n k)
    ∙ ap (λ c. c || eqb (bit_at n k) 1) (h k lk) ∙ go (f k) (j k lk) ∙ ap (λ b. f k || b) (sym (list_any_more (λ x. p x k) xs i d lt))
  where
    go : (b : Bool) → (b ≡ false → eqb (bit_at n k) 1 ≡ p (get_or xs i d) k) → (b || list_any (λ x. p x k) (take i xs)) || eqb (bit_at n k) 1 ≡ b || (list_any (λ x. p x k) (take i xs) || p (get_or xs i d) k)
    go true e = refl
    go false e = ap (λ c. list_any (λ x. p x k) (take i xs) || c) (e refl)
