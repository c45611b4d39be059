-- Lists that are the same but for their order.
use Rattle.std.proofs.Common.{◌≡◌, ℕ, zero, suc, ◌<◌, List, [], ◌∷◌, ◌++◌, map as each, length, refl, sym, subst, arith, append-nil, IsPermutation}
use Rattle.std.specs.Prelude.{slice_set as set, slice_index_or as get_or}
use Rattle.std.specs.List.{swap}
use Rattle.std.proofs.lemmas.List.Sorted.{IsPermutation-refl, IsPermutation-sym, IsPermutation-trans, IsPermutation-cons, IsPermutation-swap, IsPermutation-keeps, IsPermutation-map}
use Rattle.calculus.specs.Exchanges.{Exchanges, nothing, under, neighbours, then}
use Rattle.calculus.specs.ListLaws.{ExchangesPermute, PermutationsExchange}

still : {A : Type 0} (xs : List A) → Exchanges xs xs
still [] = nothing
still (x ∷ xs) = under x (still xs)

-- the first member and another one change places
first-swapped : {A : Type 0} (d z : A) (zs : List A) (j : ℕ) → j < length zs → Exchanges (z ∷ zs) (get_or zs j d ∷ set zs j z)
first-swapped d z [] j h = absurd (omega (arith, h))
first-swapped d z (y ∷ ys) zero h = neighbours z y ys
first-swapped d z (y ∷ ys) (suc j) h = then (neighbours z y ys) (then (under y (first-swapped d z ys j (omega (arith, h)))) (neighbours y (get_or ys j d) (set ys j z)))

-- any two members change places
two-swapped : {A : Type 0} (d : A) (zs : List A) (i j : ℕ) → i < length zs → j < length zs → Exchanges zs (set (set zs i (get_or zs j d)) j (get_or zs i d))
two-swapped d [] i j h k = absurd (omega (arith, h))
two-swapped d (z ∷ zs) zero zero h k = still (z ∷ zs)
two-swapped d (z ∷ zs) zero (suc j) h k = first-swapped d z zs j (omega (arith, k))
two-swapped d (z ∷ zs) (suc i) zero h k = first-swapped d z zs i (omega (arith, h))
two-swapped d (z ∷ zs) (suc i) (suc j) h k = under z (two-swapped d zs i j (omega (arith, h)) (omega (arith, k)))

swapped : {A : Type 0} (zs : List A) (i j : ℕ) → i < length zs → j < length zs → Exchanges zs (swap zs i j)
swapped [] i j h k = absurd (omega (arith, h))
swapped (z ∷ zs) i j h k = two-swapped z (z ∷ zs) i j h k

-- a permutation, as recursion goes by it
pub exchanges : {A : Type 0} {xs ys : List A} → IsPermutation xs ys → Exchanges xs ys
exchanges {xs} {ys} p = IsPermutation-keeps xs (λ l. Exchanges xs l) (still xs) (λ l i j h k e. then e (swapped l i j h k)) ys p

pub unmoved : {A : Type 0} (xs : List A) → IsPermutation xs xs
unmoved xs = IsPermutation-refl xs

pub keep : {A : Type 0} {xs ys : List A} (x : A) → IsPermutation xs ys → IsPermutation (x ∷ xs) (x ∷ ys)
keep {xs} {ys} x p = IsPermutation-cons x xs ys p

pub exchange : {A : Type 0} (x y : A) (zs : List A) → IsPermutation (x ∷ y ∷ zs) (y ∷ x ∷ zs)
exchange x y zs = IsPermutation-swap (x ∷ y ∷ zs) (y ∷ x ∷ zs) 0 1 (omega arith) (omega arith) refl

pub join : {A : Type 0} {xs ys zs : List A} → IsPermutation xs ys → IsPermutation ys zs → IsPermutation xs zs
join {xs} {ys} {zs} p q = IsPermutation-trans xs ys zs p q

-- and back
pub moved_so : {A : Type 0} {xs ys : List A} → IsPermutation xs ys → IsPermutation ys xs
moved_so {xs} {ys} p = IsPermutation-sym xs ys p

pub permuted : {A : Type 0} {xs ys : List A} → Exchanges xs ys → IsPermutation xs ys
permuted nothing = unmoved []
permuted (under x e) = keep x (permuted e)
permuted (neighbours x y zs) = exchange x y zs
permuted (then e f) = join (permuted e) (permuted f)

-- one member moves over others
pub over : {A : Type 0} (x : A) (ys zs : List A) → IsPermutation (ys ++ x ∷ zs) (x ∷ ys ++ zs)
over x [] zs = unmoved (x ∷ zs)
over x (y ∷ ys) zs = join (keep y (over x ys zs)) (exchange y x (ys ++ zs))

pub moved_back : {A : Type 0} (x : A) (ys zs : List A) → IsPermutation (x ∷ ys ++ zs) (ys ++ x ∷ zs)
moved_back x ys zs = moved_so (over x ys zs)

-- the same members after a list
pub moved_after : {A : Type 0} (zs : List A) {xs ys : List A} → IsPermutation xs ys → IsPermutation (zs ++ xs) (zs ++ ys)
moved_after [] p = p
moved_after (z ∷ zs) p = keep z (moved_after zs p)

-- the same members before a list
pub moved_before : {A : Type 0} (zs : List A) {xs ys : List A} → IsPermutation xs ys → IsPermutation (xs ++ zs) (ys ++ zs)
moved_before {A} zs p = go (exchanges p)
  where
    go : {xs ys : List A} → Exchanges xs ys → IsPermutation (xs ++ zs) (ys ++ zs)
    go nothing = unmoved zs
    go (under x e) = keep x (go e)
    go (neighbours x y ws) = exchange x y (ws ++ zs)
    go (then e f) = join (go e) (go f)

-- a list moves over another
pub all_over : {A : Type 0} (xs ys : List A) → IsPermutation (xs ++ ys) (ys ++ xs)
all_over [] ys = subst (λ l. IsPermutation ys l) (sym (append-nil ys)) (unmoved ys)
all_over (x ∷ xs) ys = join (keep x (all_over xs ys)) (moved_back x ys xs)

nothing-exchanged : {A : Type 0} {xs ys : List A} → Exchanges xs ys → ys ≡ [] → xs ≡ []
nothing-exchanged nothing e = refl
nothing-exchanged (under x h) e = cc e
nothing-exchanged (neighbours x y zs) e = cc e
nothing-exchanged (then h k) e = nothing-exchanged h (nothing-exchanged k e)

-- no members in another order are none
pub moved-nothing : {A : Type 0} {xs ys : List A} → IsPermutation xs ys → ys ≡ [] → xs ≡ []
moved-nothing p e = nothing-exchanged (exchanges p) e

-- each member by a function
pub each-moved : {A B : Type 0} (f : A → B) {xs ys : List A} → IsPermutation xs ys → IsPermutation (each f xs) (each f ys)
each-moved f {xs} {ys} p = IsPermutation-map f xs ys p

pub exchanges_permute : {A : Type 0} → ExchangesPermute A
exchanges_permute xs ys e = permuted e

pub permutations_exchange : {A : Type 0} → PermutationsExchange A
permutations_exchange xs ys p = exchanges p
