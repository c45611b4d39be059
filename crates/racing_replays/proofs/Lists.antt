-- Lists in which no member stands twice.
use Rattle.std.proofs.Common.{◌≡◌, ◌≤◌, ℕ, zero, suc, ◌+◌, Bool, true, false, cond, List, [], ◌∷◌, ◌++◌, map as each, refl, ap, sym, ◌∙◌, subst, arith, inl, inr}
use Rattle.std.specs.Prelude.{◌⊎◌, ⊤, count_by, IsPermutation}
use Rattle.std.proofs.lemmas.List.Sums.{sum_by-cons}
use Rattle.calculus.proofs.Members.{Member}
use Rattle.calculus.proofs.Permutations.{unmoved, keep, join, moved_back}

-- no member stands twice
abbrev pub AreSingle : {A : Type 0} → List A → Type 0
AreSingle [] = ⊤
AreSingle (x ∷ xs) = (Member x xs → ⊥) × AreSingle xs

-- where a member stands
pub record Found {A : Type 0} (x : A) (ys : List A) : Type 0 where
  pub pre : List A
  pub post : List A
  pub is : ys ≡ pre ++ x ∷ post

pub found-at : {A : Type 0} (x : A) (ys : List A) → Member x ys → Found x ys
found-at x [] m = absurd m
found-at x (y ∷ ys) (inl e) = record { pre = []; post = ys; is = ap (λ z. z ∷ ys) (sym e) }
found-at x (y ∷ ys) (inr m) = let f = found-at x ys m in record { pre = y ∷ f.pre; post = f.post; is = ap (λ l. y ∷ l) f.is }

pub but-one : {A : Type 0} (z x : A) (pre post : List A) → Member z (pre ++ x ∷ post) → (z ≡ x) ⊎ Member z (pre ++ post)
but-one z x [] post m = m
but-one z x (p ∷ pre) post (inl e) = inr (inl e)
but-one z x (p ∷ pre) post (inr m) = go (but-one z x pre post m)
  where
    go : (z ≡ x) ⊎ Member z (pre ++ post) → (z ≡ x) ⊎ Member z (p ∷ pre ++ post)
    go (inl e) = inl e
    go (inr k) = inr (inr k)

pub with-one : {A : Type 0} (z x : A) (pre post : List A) → Member z (pre ++ post) → Member z (pre ++ x ∷ post)
with-one z x [] post m = inr m
with-one z x (p ∷ pre) post (inl e) = inl e
with-one z x (p ∷ pre) post (inr m) = inr (with-one z x pre post m)

pub middle : {A : Type 0} (x : A) (pre post : List A) → Member x (pre ++ x ∷ post)
middle x [] post = inl refl
middle x (p ∷ pre) post = inr (middle x pre post)

pub single-out : {A : Type 0} (x : A) (pre post : List A) → AreSingle (pre ++ x ∷ post) → (Member x (pre ++ post) → ⊥) × AreSingle (pre ++ post)
single-out x [] post h = h
single-out x (p ∷ pre) post h = let next = single-out x pre post h.1 in (none next.0, (λ m. h.0 (with-one p x pre post m), next.1))
  where
    none : (Member x (pre ++ post) → ⊥) → Member x (p ∷ pre ++ post) → ⊥
    none next (inl e) = h.0 (subst (λ y. Member y (pre ++ x ∷ post)) e (middle x pre post))
    none next (inr m) = next m

pub single-more : {A : Type 0} (x : A) (xs : List A) → AreSingle xs → (Member x xs → ⊥) → AreSingle (xs ++ x ∷ [])
single-more x [] h f = (λ m. m, h)
single-more x (y ∷ xs) h f = (none, single-more x xs h.1 (λ m. f (inr m)))
  where
    at_end : (z : _) → Member z (xs ++ x ∷ []) → Member z xs ⊎ (z ≡ x)
    at_end z m = go (but-one z x xs [] m)
      where
        nothing : {A : Type 0} (w : A) (l : List A) → Member w (l ++ []) → Member w l
        nothing w [] m = m
        nothing w (v ∷ l) (inl e) = inl e
        nothing w (v ∷ l) (inr m) = inr (nothing w l m)

        go : (z ≡ x) ⊎ Member z (xs ++ []) → Member z xs ⊎ (z ≡ x)
        go (inl e) = inr e
        go (inr k) = inl (nothing z xs k)

    none : Member y (xs ++ x ∷ []) → ⊥
    none m = go (at_end y m)
      where
        go : Member y xs ⊎ (y ≡ x) → ⊥
        go (inl k) = h.0 k
        go (inr e) = f (inl (sym e))

-- lists with the same members, none of them twice, are the same up to order
pub same-moved : {A : Type 0} (xs ys : List A) → AreSingle xs → AreSingle ys → ((z : A) → Member z xs → Member z ys) → ((z : A) → Member z ys → Member z xs) → IsPermutation xs ys
same-moved [] [] h k f g = unmoved []
same-moved [] (y ∷ ys) h k f g = absurd (g y (inl refl))
same-moved {A} (x ∷ xs) ys h k f g = subst (λ l. IsPermutation (x ∷ xs) l) (sym at.is) (join (keep x (same-moved xs (at.pre ++ at.post) h.1 out.1 there back)) (moved_back x at.pre at.post))
  where
    at : Found x ys
    at = found-at x ys (f x (inl refl))

    out : (Member x (at.pre ++ at.post) → ⊥) × AreSingle (at.pre ++ at.post)
    out = single-out x at.pre at.post (subst AreSingle at.is k)

    there : (z : A) → Member z xs → Member z (at.pre ++ at.post)
    there z m = go (but-one z x at.pre at.post (subst (λ l. Member z l) at.is (f z (inr m))))
      where
        go : (z ≡ x) ⊎ Member z (at.pre ++ at.post) → Member z (at.pre ++ at.post)
        go (inl e) = absurd (h.0 (subst (λ y. Member y xs) e m))
        go (inr n) = n

    back : (z : A) → Member z (at.pre ++ at.post) → Member z xs
    back z m = go (g z (subst (λ l. Member z l) (sym at.is) (with-one z x at.pre at.post m)))
      where
        go : Member z (x ∷ xs) → Member z xs
        go (inl e) = absurd (out.0 (subst (λ y. Member y (at.pre ++ at.post)) e m))
        go (inr n) = n

-- the sum over a list
abbrev pub tally : {A : Type 0} → (A → ℕ) → List A → ℕ
tally f [] = 0
tally f (x ∷ xs) = f x + tally f xs

tally-out : {A : Type 0} (f : A → ℕ) (x : A) (pre post : List A) → tally f (pre ++ x ∷ post) ≡ f x + tally f (pre ++ post)
tally-out f x [] post = refl
tally-out f x (p ∷ pre) post = omega (arith, tally-out f x pre post)

-- what counts in the one list stands in the other
pub tally-in : {A : Type 0} (f : A → ℕ) (xs ys : List A) → AreSingle xs → ((z : A) → 1 ≤ f z → Member z xs → Member z ys) → tally f xs ≤ tally f ys
tally-in f [] ys h g = omega arith
tally-in {A} f (x ∷ xs) ys h g = go (λ zs. tally-in f xs zs h.1) (f x) refl
  where
    go : ((zs : List A) → ((z : A) → 1 ≤ f z → Member z xs → Member z zs) → tally f xs ≤ tally f zs) → (n : ℕ) → f x ≡ n → f x + tally f xs ≤ tally f ys
    go next zero e = omega (arith, next ys (λ z p m. g z p (inr m)), e)
    go next (suc n) e = omega (arith, ap (tally f) at.is, tally-out f x at.pre at.post, next (at.pre ++ at.post) there)
      where
        at : Found x ys
        at = found-at x ys (g x (omega (arith, e)) (inl refl))

        there : (z : A) → 1 ≤ f z → Member z xs → Member z (at.pre ++ at.post)
        there z p m = end (but-one z x at.pre at.post (subst (λ l. Member z l) at.is (g z p (inr m))))
          where
            end : (z ≡ x) ⊎ Member z (at.pre ++ at.post) → Member z (at.pre ++ at.post)
            end (inl e) = absurd (h.0 (subst (λ y. Member y xs) e m))
            end (inr n) = n

-- a count of images is a sum
pub count-tally : {A B : Type 0} (q : B → Bool) (f : A → B) (xs : List A) → count_by q (each f xs) ≡ tally (λ x. cond (q (f x)) 1 0) xs
count-tally q f [] = refl
count-tally q f (x ∷ xs) = sum_by-cons (λ y. cond (q y) 1 0) (f x) (each f xs) ∙ ap (λ n. cond (q (f x)) 1 0 + n) (count-tally q f xs)

-- what is counted stands in both lists
pub count-same : {A B : Type 0} (q : B → Bool) (f : A → B) (xs ys : List A) → AreSingle xs → AreSingle ys
    → ((z : A) → q (f z) ≡ true → Member z xs → Member z ys) → ((z : A) → q (f z) ≡ true → Member z ys → Member z xs) → count_by q (each f xs) ≡ count_by q (each f ys)
count-same q f xs ys h k g e = omega (arith, count-tally q f xs, count-tally q f ys, tally-in _ xs ys h (λ z p m. g z (one z p) m), tally-in _ ys xs k (λ z p m. e z (one z p) m))
  where
    holds : (c : Bool) → 1 ≤ cond c 1 0 → c ≡ true
    holds true p = refl
    holds false p = absurd (omega (arith, p))

    one : (z : _) → 1 ≤ cond (q (f z)) 1 0 → q (f z) ≡ true
    one z p = holds (q (f z)) p
