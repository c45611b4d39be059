-- A process with its parts in order is congruent to it.
use Rattle.std.proofs.Common.{◌≡◌, ℕ, suc, ◌+◌, Bool, true, false, cond, List, [], ◌∷◌, map as each, length, refl, sym, ap, ◌∙◌, subst, ⊎_elim}
use Rattle.std.specs.Prelude.{zip, IsTrue}
use Rattle.std.specs.List.Sorted.{IsPermutation}
use Rattle.std.proofs.lemmas.Bool.{cases_Bool}
use Rattle.std.proofs.lemmas.List.Sorted.{IsPermutation-refl, IsPermutation-trans, IsPermutation-cons, IsPermutation-middle}
use Rattle.calculus.specs.Tree.{Label, Tree, node, Trees, none, also, trees}
use Rattle.calculus.specs.Shape.{listed, many}
use Rattle.calculus.specs.Order.{up_to}
use Rattle.calculus.specs.Code.{codes}
use Rattle.calculus.specs.Congruence.{is_bag, congruent}
use Rattle.calculus.specs.CongruenceLaws.{AreCongruent}
use Rattle.calculus.specs.Normal.{placed_by, by_code, arranged_by}
use Rattle.calculus.proofs.Equivalence.{transitive, of_forms, order_of_bag}
use Rattle.calculus.proofs.Placing.{trees-listed}
use Rattle.printed_spelling.specs.Ordered.{ordered, ordered_all}

-- the things beside codes
abbrev things : {A : Type 0} → List (List ℕ × A) → List A
things xs = each (λ p. p.1) xs

module _ {A : Type 0} where
  one-placed : (b : Bool) (x y : List ℕ × A) (ys zs : List (List ℕ × A)) → IsPermutation (things zs) (x.1 ∷ things ys) → IsPermutation (things (cond b (x ∷ y ∷ ys) (y ∷ zs))) (x.1 ∷ y.1 ∷ things ys)
  one-placed true x y ys zs h = IsPermutation-refl _
  one-placed false x y ys zs h = IsPermutation-trans _ _ _ (IsPermutation-cons y.1 _ _ h) (IsPermutation-middle (y.1 ∷ []) x.1 (things ys))

  placed-things : (x : List ℕ × A) (xs : List (List ℕ × A)) → IsPermutation (things (placed_by x xs)) (x.1 ∷ things xs)
  unfolding placed_by
  placed-things x [] = IsPermutation-refl _
  placed-things x (y ∷ ys) = one-placed (up_to x.0 y.0) x y ys (placed_by x ys) (placed-things x ys)

  sorted-things : (xs : List (List ℕ × A)) → IsPermutation (things (by_code xs)) (things xs)
  unfolding by_code
  sorted-things [] = IsPermutation-refl _
  sorted-things (x ∷ xs) = IsPermutation-trans _ _ _ (placed-things x (by_code xs)) (IsPermutation-cons x.1 _ _ (sorted-things xs))

  -- as many things as codes, in order of the codes
  pub arranged-things : (cs : List (List ℕ)) (xs : List A) → things (zip cs xs) ≡ xs → IsPermutation (arranged_by (zip cs xs)) xs
  arranged-things cs xs e = subst (λ ys. IsPermutation (arranged_by (zip cs xs)) ys) e (sorted-things (zip cs xs))

-- a tree has one code
with_codes : (ts : Trees) → things (zip (codes ts) (ordered_all ts)) ≡ ordered_all ts
with_codes none = refl
with_codes (also t ts) = ap (λ xs. ordered t ∷ xs) (with_codes ts)

-- what stands in no order may be put in order
put_in_order : (l : Label) (ts : Trees) (b : Bool) → is_bag l ≡ b → IsTrue (congruent (many l (ordered_all ts)) (node l ts))
    → IsTrue (congruent (many l (cond b (arranged_by (zip (codes ts) (ordered_all ts))) (ordered_all ts))) (node l ts))
put_in_order l ts false e h = h
put_in_order l ts true e h =
    let xs = arranged_by (zip (codes ts) (ordered_all ts)) in
    transitive (many l xs) (many l (ordered_all ts)) (node l ts)
    (order_of_bag l xs (ordered_all ts) e (arranged-things (codes ts) (ordered_all ts) (with_codes ts))) h

mutual
  pub ordered_is_congruent : (t : Tree) → IsTrue (congruent (ordered t) t)
  ordered_is_congruent (node l ts) =
      put_in_order l ts (is_bag l) refl
      (subst (λ us. IsTrue (congruent (many l (ordered_all ts)) (node l us))) (trees-listed ts) (of_forms l (ordered_all ts) (listed ts) (all_congruent ts)))

  all_congruent : (ts : Trees) → AreCongruent (ordered_all ts) (listed ts)
  all_congruent none = tt
  all_congruent (also t ts) = (ordered_is_congruent t, all_congruent ts)
