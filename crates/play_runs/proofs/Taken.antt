-- A list of which no less is taken is whole.
use Rattle.std.proofs.Common.{◌≡◌, ◌≤◌, ℕ, zero, suc, List, [], ◌∷◌, length, take, refl, ap, subst, arith}
use Rattle.std.specs.List.{All}

-- a list is what is taken of it, where no less is taken
take-all : {A : Type 0} (xs : List A) (i : ℕ) → length xs ≤ i → take i xs ≡ xs
take-all [] zero h = refl
take-all [] (suc i) h = refl
take-all (x ∷ xs) zero h = absurd (omega (arith, h))
take-all (x ∷ xs) (suc i) h = ap (λ l. x ∷ l) (take-all xs i (omega (arith, h)))

pub all-taken : {A : Type 0} (P : A → Type 0) (xs : List A) (i : ℕ) → length xs ≤ i → All P (take i xs) → All P xs
all-taken P xs i h a = subst (All P) (take-all xs i h) a
