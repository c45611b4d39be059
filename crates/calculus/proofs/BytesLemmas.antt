-- A number that fits its width as bytes, and one more list after those that are joined.
use Rattle.std.proofs.Common.{◌≡◌, ℕ, zero, suc, ◌+◌, ◌<◌, ◌^◌, List, [], ◌∷◌, ◌++◌, map, take, length, get_or, ap, sym, ◌∙◌, arith, add-one, append_assoc, append-nil}
use Rattle.std.specs.Int.{w32, w64, to_be_bytes}
use Rattle.std.proofs.Math.Nat.{mod-eq_of_lt}
use Rattle.calculus.specs.Bytes.{be32, be64, joined}

-- a number of 32 bits has its own four bytes
pub to_be_bytes-be32 : (n : ℕ) → n < 2 ^ 32 → to_be_bytes w32 n ≡ be32 n
unfolding be32
to_be_bytes-be32 n h = ap (to_be_bytes w32) (sym (mod-eq_of_lt h))

-- a number of 64 bits has its own eight bytes
pub to_be_bytes-be64 : (n : ℕ) → n < 2 ^ 64 → to_be_bytes w64 n ≡ be64 n
unfolding be64
to_be_bytes-be64 n h = ap (to_be_bytes w64) (sym (mod-eq_of_lt h))

joined-take-suc : {A : Type 0} (f : A → List ℕ) (xs : List A) (i : ℕ) (d : A) → i < length xs
    → joined (map f (take (suc i) xs)) ≡ joined (map f (take i xs)) ++ f (get_or xs i d)
joined-take-suc f [] i d h = absurd (omega arith)
joined-take-suc f (x ∷ xs) zero d h = rw append-nil
joined-take-suc f (x ∷ xs) (suc i) d h =
    ap (λ ys. f x ++ ys) (joined-take-suc f xs i d (omega arith)) ∙ sym (append_assoc (f x) (joined (map f (take i xs))) (f (get_or xs i d)))

-- one more list after those that are joined
pub joined-take : {A : Type 0} (f : A → List ℕ) (xs : List A) (i : ℕ) (d : A) → i < length xs
    → joined (map f (take (i + 1) xs)) ≡ joined (map f (take i xs)) ++ f (get_or xs i d)
joined-take f xs i d h = rw add-one (joined-take-suc f xs i d h)
