-- Where the shorter of two lists ends.
use Rattle.std.proofs.Common.{◌≡◌, ℕ, zero, suc, List, [], ◌∷◌, length, drop, arith, min}
use Rattle.rho_lanes.specs.Differences.{AreParted}

-- at the end of the shorter one two lists of different lengths are parted
pub parted-ends : (n : ℕ) (xs ys : List ℕ) → n ≡ min (length xs) (length ys) → (length xs ≡ length ys → ⊥) → AreParted (drop n xs) (drop n ys)
parted-ends zero [] [] e f = f (omega arith)
parted-ends zero [] (y ∷ ys) e f = tt
parted-ends zero (x ∷ xs) [] e f = tt
parted-ends zero (x ∷ xs) (y ∷ ys) e f = absurd (omega arith)
parted-ends (suc n) [] ys e f = absurd (omega arith)
parted-ends (suc n) (x ∷ xs) [] e f = absurd (omega arith)
parted-ends (suc n) (x ∷ xs) (y ∷ ys) e f = parted-ends n xs ys (omega arith) (λ q. f (omega arith))
