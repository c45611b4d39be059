-- Texts that are appended one after another.
use Rattle.std.proofs.Common.{◌≡◌, ℕ, ◌+◌, ◌<◌, refl, List, ◌∷◌, ◌++◌, map, take, length, get_or, [], sym, ◌∙◌, ap, append_assoc, append-nil}
use Rattle.calculus.specs.Bytes.{joined}
use Rattle.calculus.proofs.BytesLemmas.{joined-take}

-- bytes that hold the texts of the first i members, and then that of the next one
pub grown : {A : Type 0} (f : A → List ℕ) (start before now : List ℕ) (xs : List A) (i : ℕ) (d : A) → i < length xs
    → before ≡ start ++ joined (map f (take i xs)) → now ≡ before ++ f (get_or xs i d)
    → now ≡ start ++ joined (map f (take (i + 1) xs))
grown f start before now xs i d h was is =
    let j = joined (map f (take i xs)) in
    let y = f (get_or xs i d) in
    is ∙ ap (λ l. l ++ y) was ∙ append_assoc start j y ∙ ap (λ l. start ++ l) (sym (joined-take f xs i d h))

joined-push : {A : Type 0} (f : A → List ℕ) (ys : List A) (x : A) → joined (map f (ys ++ x ∷ [])) ≡ joined (map f ys) ++ f x
joined-push f [] x = append-nil (f x)
joined-push f (y ∷ ys) x = ap (λ l. f y ++ l) (joined-push f ys x) ∙ sym (append_assoc (f y) (joined (map f ys)) (f x))

-- bytes that hold the texts of some members, and then that of one more
pub grown-by : {A : Type 0} (f : A → List ℕ) (start before now : List ℕ) (ys : List A) (x : A) → before ≡ start ++ joined (map f ys) → now ≡ before ++ f x → now ≡ start ++ joined (map f (ys ++ x ∷ []))
grown-by f start before now ys x was is = is ∙ ap (λ l. l ++ f x) was ∙ append_assoc start (joined (map f ys)) (f x) ∙ ap (λ l. start ++ l) (sym (joined-push f ys x))

pub same-list : {A : Type 0} (xs : List A) → map (λ x. x) xs ≡ xs
same-list [] = refl
same-list (x ∷ xs) = ap (λ ys. x ∷ ys) (same-list xs)
