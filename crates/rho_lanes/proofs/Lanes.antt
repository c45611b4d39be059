-- Lists of bytes that are equal in each lane.
use Rattle.std.proofs.Common.{◌≡◌, ℕ, suc, ◌+◌, ◌*◌, ◌^◌, ◌%◌, ◌≤◌, Bool, true, false, eqb, eqb-true, cond, List, [], ◌∷◌, length, take, drop, refl, arith, ap, sym, ◌∙◌, subst}
use Rattle.std.proofs.lemmas.Simd.{mask_l-mod}
use Rattle.std.specs.Simd.Lanes.{zip2, mask_l}
use Rattle.std.proofs.lemmas.List.{length-take-le, length-drop}
use Rattle.std.proofs.Math.Seq.{take-add}
use Rattle.std.proofs.Math.Nat.{pow-suc}

heads : (b : Bool) (m n : ℕ) → (cond b 1 0 + 2 * m) + 1 ≡ 2 * n → (b ≡ true) × (m + 1 ≡ n)
heads true m n e = (refl, omega arith)
heads false m n e = absurd (omega arith)

doubled : (n : ℕ) → 2 ^ suc n ≡ 2 * 2 ^ n
doubled n = omega (arith, pow-suc 2 n)

-- where each lane's bit is set, the lists are equal
all-set : (xs ys : List ℕ) → length xs ≡ length ys → mask_l (zip2 eqb xs ys) + 1 ≡ 2 ^ length xs → xs ≡ ys
all-set [] [] l e = refl
all-set [] (y ∷ ys) l e = cc
all-set (x ∷ xs) [] l e = cc
all-set (x ∷ xs) (y ∷ ys) l e =
    let h = heads (eqb x y) (mask_l (zip2 eqb xs ys)) (2 ^ length xs) (e ∙ doubled (length xs)) in
    let q : x ≡ y = eqb-true x y h.0 in
    let r : xs ≡ ys = all-set xs ys (omega arith) h.1 in
    cc

zipped : (xs ys : List ℕ) → length xs ≡ length ys → length (zip2 eqb xs ys) ≡ length xs
zipped [] [] l = refl
zipped [] (y ∷ ys) l = cc
zipped (x ∷ xs) [] l = cc
zipped (x ∷ xs) (y ∷ ys) l = ap suc (zipped xs ys (omega arith))

-- the same for sixteen lanes
pub sixteen-set : (xs ys : List ℕ) → length xs ≡ 16 → length ys ≡ 16 → mask_l (zip2 eqb xs ys) % 2 ^ 64 ≡ 65535 → xs ≡ ys
sixteen-set xs ys k l e =
    let z : length (zip2 eqb xs ys) ≤ 64 = omega (arith, zipped xs ys (k ∙ sym l)) in
    let m : mask_l (zip2 eqb xs ys) ≡ 65535 = sym (mask_l-mod (zip2 eqb xs ys) 64 z) ∙ e in
    all-set xs ys (k ∙ sym l) (subst (λ n. mask_l (zip2 eqb xs ys) + 1 ≡ 2 ^ n) (sym k) (omega arith))

-- what is equal up to a place, and in the n bytes from there on, is equal up to their end
pub further : (n i : ℕ) (xs ys : List ℕ) → take i xs ≡ take i ys → take n (drop i xs) ≡ take n (drop i ys) → take (i + n) xs ≡ take (i + n) ys
further n i xs ys e f = cc (take-add i n xs, take-add i n ys)

-- there are sixteen bytes from a place on
pub full : (xs : List ℕ) (i : ℕ) → i + 16 ≤ length xs → length (take 16 (drop i xs)) ≡ 16
full xs i h = length-take-le 16 (drop i xs) (omega (arith, length-drop i xs))
