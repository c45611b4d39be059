-- Lists of bytes of which neither is a proper prefix of the other.
use Rattle.std.proofs.Common.{◌≡◌, ℕ, List, [], ◌∷◌, ◌++◌, length, refl, arith}
use Rattle.std.specs.Prelude.{⊤}
use Rattle.calculus.specs.CodeLaws.{Splits}
use Rattle.calculus.specs.Bytes.{joined}

pub Splits-append : (xs ys us vs : List ℕ) → Splits xs ys → (xs ≡ ys → Splits us vs) → Splits (xs ++ us) (ys ++ vs)
Splits-append [] [] us vs h k = k refl
Splits-append [] (y ∷ ys) us vs h k = absurd h
Splits-append (x ∷ xs) [] us vs h k = absurd h
Splits-append (x ∷ xs) (y ∷ ys) us vs h k = λ e. Splits-append xs ys us vs (h e) (λ f. k (cc))

pub Splits-length : (xs ys : List ℕ) → length xs ≡ length ys → Splits xs ys
Splits-length [] [] h = tt
Splits-length [] (y ∷ ys) h = omega arith
Splits-length (x ∷ xs) [] h = omega arith
Splits-length (x ∷ xs) (y ∷ ys) h = λ e. Splits-length xs ys (omega arith)

-- what follows such lists can be cut off
pub cut : (xs ys us vs : List ℕ) → Splits xs ys → xs ++ us ≡ ys ++ vs → (xs ≡ ys) × (us ≡ vs)
cut [] [] us vs h e = (refl, e)
cut [] (y ∷ ys) us vs h e = absurd h
cut (x ∷ xs) [] us vs h e = absurd h
cut (x ∷ xs) (y ∷ ys) us vs h e =
    let p : x ≡ y = cc in
    let q : xs ++ us ≡ ys ++ vs = cc in
    let r = cut xs ys us vs (h p) q in
    (cc, r.1)

pub none_longer : (xs ys : List ℕ) (z : ℕ) (zs : List ℕ) → Splits xs ys → ys ≡ xs ++ z ∷ zs → ⊥
none_longer [] [] z zs h e = cc
none_longer [] (y ∷ ys) z zs h e = h
none_longer (x ∷ xs) [] z zs h e = h
none_longer (x ∷ xs) (y ∷ ys) z zs h e =
    let p : x ≡ y = cc in
    let q : ys ≡ xs ++ z ∷ zs = cc in
    none_longer xs ys z zs (h p) q

-- as many lists on both sides, and each two in turn such lists
abbrev pub Together : List (List ℕ) → List (List ℕ) → Type 0
Together [] [] = ⊤
Together [] (d ∷ ds) = ⊥
Together (c ∷ cs) [] = ⊥
Together (c ∷ cs) (d ∷ ds) = Splits c d × Together cs ds

pub Splits-joined : (cs ds : List (List ℕ)) → Together cs ds → Splits (joined cs) (joined ds)
Splits-joined [] [] h = tt
Splits-joined [] (d ∷ ds) h = absurd h
Splits-joined (c ∷ cs) [] h = absurd h
Splits-joined (c ∷ cs) (d ∷ ds) h = Splits-append c d (joined cs) (joined ds) h.0 (λ e. Splits-joined cs ds h.1)

pub one-joined : (cs ds : List (List ℕ)) → Together cs ds → joined cs ≡ joined ds → cs ≡ ds
one-joined [] [] h e = refl
one-joined [] (d ∷ ds) h e = absurd h
one-joined (c ∷ cs) [] h e = absurd h
one-joined (c ∷ cs) (d ∷ ds) h e =
    let p = cut c d (joined cs) (joined ds) h.0 e in
    let q : cs ≡ ds = one-joined cs ds h.1 p.1 in
    let r : c ≡ d = p.0 in
    cc
