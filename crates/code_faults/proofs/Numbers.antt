-- Numbers of four and of eight bytes, and variables at an index.
use Rattle.std.proofs.Common.{◌≡◌, ℕ, zero, suc, ◌-◌, ◌<◌, ◌≤◌, ◌^◌, List, [], ◌∷◌, ◌++◌, take, drop, get_or, length, refl, sym, ap, ◌∙◌, arith}
use Rattle.std.specs.Int.{w32, from_be_bytes}
use Rattle.std.proofs.lemmas.Nat.{be_bytes_4}
use Rattle.std.proofs.Math.Seq.{take-length}
use Rattle.std.proofs.lemmas.List.Elements.{All-from_get_or}
use Rattle.calculus.specs.Bytes.{be32}
use Rattle.calculus.specs.Variables.{Sense}
use Rattle.calculus.specs.Form.{Scope, HasVariable, IsBytes}
use Rattle.calculus.proofs.BytesLemmas.{to_be_bytes-be32}

all_taken : (ys : List ℕ) (k : ℕ) → k ≡ length ys → ys ≡ take k ys
all_taken ys k e = sym (rw e (take-length ys))

-- where a list has no number at i, the number there is 0
past : (i : ℕ) → get_or [] i 0 < 256
past i = omega arith

-- numbers below 256
pub record AreSmall (xs : List ℕ) : Type 0 where
  pub at : (i : ℕ) → get_or xs i 0 < 256

small-none : AreSmall []
small-none = record { at = past }

first_small : (x : ℕ) (xs : List ℕ) → x < 256 → AreSmall xs → (i : ℕ) → get_or (x ∷ xs) i 0 < 256
first_small x xs h k zero = h
first_small x xs h k (suc i) = k.at i

small-more : {x : ℕ} {xs : List ℕ} → x < 256 → AreSmall xs → AreSmall (x ∷ xs)
small-more {x = x} {xs = xs} h k = record { at = first_small x xs h k }

pub four : (xs : List ℕ) (n : ℕ) → 4 ≤ length xs → n < 2 ^ 32
    → get_or xs 0 0 < 256 → get_or xs 1 0 < 256 → get_or xs 2 0 < 256 → get_or xs 3 0 < 256
    → n ≡ from_be_bytes w32 (get_or xs 0 0 ∷ get_or xs 1 0 ∷ get_or xs 2 0 ∷ get_or xs 3 0 ∷ [])
    → xs ≡ be32 n ++ take (length xs - 4) (drop 4 xs)
four (a ∷ b ∷ c ∷ d ∷ ys) n l fits p q r s e =
    let k : length (a ∷ b ∷ c ∷ d ∷ ys) - 4 ≡ length ys = omega arith in
    let small : AreSmall (a ∷ b ∷ c ∷ d ∷ []) = small-more p (small-more q (small-more r (small-more s small-none))) in
    let is : be32 n ≡ a ∷ b ∷ c ∷ d ∷ [] = sym (to_be_bytes-be32 n fits) ∙ be_bytes_4 (a ∷ b ∷ c ∷ d ∷ []) n refl small.at e in
    rw is (ap (λ (zs : List ℕ). a ∷ b ∷ c ∷ d ∷ zs) (all_taken ys (length (a ∷ b ∷ c ∷ d ∷ ys) - 4) k))
four [] n l fits p q r s e = absurd (omega arith)
four (a ∷ []) n l fits p q r s e = absurd (omega arith)
four (a ∷ b ∷ []) n l fits p q r s e = absurd (omega arith)
four (a ∷ b ∷ c ∷ []) n l fits p q r s e = absurd (omega arith)

-- a variable of a scope, by what stands at its index
pub has_variable : (ws : Scope) (i : ℕ) (v d : Sense) → i < length ws → get_or ws i d ≡ v → HasVariable ws i v
has_variable [] i v d h e = absurd (omega arith)
has_variable (w ∷ ws) zero v d h e = e
has_variable (w ∷ ws) (suc i) v d h e = has_variable ws i v d (omega arith) e

-- numbers that fit are bytes
pub are_bytes : (xs : List ℕ) → ((i : ℕ) → get_or xs i 0 < 256) → IsBytes xs
are_bytes xs h = All-from_get_or (λ b. b < 256) xs 0 (λ i l. h i)
