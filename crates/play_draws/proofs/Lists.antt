-- Lists of entries that were drawn.
use Rattle.std.proofs.Common.{◌≡◌, ℕ, zero, suc, ◌-◌, List, [], ◌∷◌, ◌++◌, length, take, drop, refl, ap, ◌∙◌, arith}
use Rattle.std.specs.Prelude.{Some}
use Rattle.std.specs.List.{slice_get}
use Rattle.std.proofs.Math.Seq.{take-length}

pub last-at : {A : Type 0} (xs : List A) (x : A) → slice_get (xs ++ x ∷ []) (length xs) ≡ Some x
last-at [] x = refl
last-at (y ∷ xs) x = last-at xs x

take-none : {A : Type 0} (k : ℕ) → take {A = A} k [] ≡ []
take-none zero = refl
take-none (suc k) = refl

-- as many as are left, from what is left
pub rest-is : {A : Type 0} (n : ℕ) (xs : List A) → take (length xs - n) (drop n xs) ≡ drop n xs
rest-is zero xs = let e : length xs - zero ≡ length xs = omega arith in ap (λ k. take k xs) e ∙ take-length xs
rest-is {A = A} (suc n) [] = take-none {A = A} (length {A = A} [] - suc n)
rest-is (suc n) (x ∷ xs) = let e : length (x ∷ xs) - suc n ≡ length xs - n = omega arith in ap (λ k. take k (drop n xs)) e ∙ rest-is n xs
