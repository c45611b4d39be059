-- Copies of what is left, one after another.
use Rattle.std.proofs.Common.{◌≡◌, ℕ, suc, ◌+◌, ◌<◌, ◌≤◌, true, false, List, [], ◌∷◌, ◌++◌, length, map as each, drop, get_or, refl, sym, ap, ◌∙◌, arith, add-one, append_assoc}
use Rattle.std.proofs.Math.Seq.{drop-cons}
use Rattle.std.proofs.lemmas.List.{drop_all, length-drop}
use Rattle.calculus.specs.Tree.{Tree}
use Rattle.free_places.specs.Places.{has, left_from}
use Rattle.free_places.proofs.Counting.{left-free, left-taken}

each-append : {A : Type 0} (f : A → Tree) (xs ys : List A) → each f (xs ++ ys) ≡ each f xs ++ each f ys
each-append f [] ys = refl
each-append f (x ∷ xs) ys = ap (λ zs. f x ∷ zs) (each-append f xs ys)

append-nil : (xs : List Tree) → xs ++ [] ≡ xs
append-nil [] = refl
append-nil (x ∷ xs) = ap (λ zs. x ∷ zs) (append-nil xs)

module _ {A : Type 0} (f : A → Tree) (us : List ℕ) (xs : List A) where
  -- these are copies of what is left before number j
  abbrev pub Kept : List A → ℕ → Type 0
  Kept done j = each f done ++ left_from j us (each f (drop j xs)) ≡ left_from 0 us (each f xs)

  pub kept-taken : (done : List A) (j : ℕ) (d : A) → j < length xs → has us j ≡ true → Kept done j → Kept done (j + 1)
  kept-taken done j d l h k =
      let e = ap (λ ys. each f done ++ left_from j us (each f ys)) (drop-cons xs j d l) in
      let g = ap (λ ys. each f done ++ ys) (left-taken us j (f (get_or xs j d)) (each f (drop (suc j) xs)) h) in
      rw (add-one) (sym g ∙ sym e ∙ k)

  taken_here : (done : List A) (j : ℕ) (ys : List A) → drop j xs ≡ ys → j < length xs → has us j ≡ true → Kept done j → Kept done (j + 1)
  taken_here done j [] e l h k = absurd (omega (arith, ap length e, length-drop j xs))
  taken_here done j (y ∷ ys) e l h k = kept-taken done j y l h k

  pub kept-used : (done : List A) (j : ℕ) → j < length xs → has us j ≡ true → Kept done j → Kept done (j + 1)
  kept-used done j l h k = taken_here done j (drop j xs) refl l h k

  pub kept-free : (done : List A) (j : ℕ) (y d : A) → j < length xs → has us j ≡ false → f y ≡ f (get_or xs j d) → Kept done j → Kept (done ++ y ∷ []) (j + 1)
  kept-free done j y d l h q k =
      let rest = left_from (suc j) us (each f (drop (suc j) xs)) in
      let e = ap (λ ys. each f done ++ left_from j us (each f ys)) (drop-cons xs j d l) in
      let g = ap (λ ys. each f done ++ ys) (left-free us j (f (get_or xs j d)) (each f (drop (suc j) xs)) h) in
      let m = ap (λ ys. ys ++ rest) (each-append f done (y ∷ [])) ∙ append_assoc (each f done) (f y ∷ []) rest ∙ ap (λ t. each f done ++ (t ∷ rest)) q in
      rw (add-one) (m ∙ sym g ∙ sym e ∙ k)

  pub kept-end : (done : List A) (j : ℕ) → length xs ≤ j → Kept done j → each f done ≡ left_from 0 us (each f xs)
  kept-end done j l k =
      sym (append-nil (each f done)) ∙ ap (λ ys. each f done ++ left_from j us (each f ys)) (sym (drop_all j xs l)) ∙ k
