-- A tree and its normal form are congruent.
use Rattle.std.proofs.Common.{◌≡◌, ℕ, List, [], ◌∷◌, map, Bool, true, false, subst, ap, refl}
use Rattle.std.specs.Prelude.{cond, IsTrue}
use Rattle.std.specs.List.Sorted.{IsPermutation}
use Rattle.std.proofs.lemmas.List.Sorted.{IsPermutation-refl, IsPermutation-trans, IsPermutation-cons, IsPermutation-middle}
use Rattle.calculus.specs.Tree.{Label, Tree, node, Trees, none, also, trees}
use Rattle.calculus.specs.Shape.{listed, many}
use Rattle.calculus.specs.Order.{up_to}
use Rattle.calculus.specs.Code.{code}
use Rattle.calculus.specs.Normal.{placed_by, by_code, ascending}
use Rattle.calculus.specs.Congruence.{is_bag, congruent}
use Rattle.calculus.specs.CongruenceLaws.{AreCongruent}
use Rattle.calculus.proofs.Equivalence.{transitive, of_forms, order_of_bag}
use Rattle.scope.specs.NormalForm.{normal_form, normal_forms}
use Rattle.scope.specs.ScopeLaws.{NormalFormIsCongruent}

-- a list of bytes and a tree
abbrev Keyed : Type 0
Keyed = List ℕ × Tree

-- the trees of these
abbrev items : List Keyed → List Tree
items xs = map (λ p. p.1) xs

one-placed : (b : Bool) (x y : Keyed) (ys zs : List Keyed) → IsPermutation (items zs) (x.1 ∷ items ys) → IsPermutation (items (cond b (x ∷ y ∷ ys) (y ∷ zs))) (x.1 ∷ y.1 ∷ items ys)
one-placed true x y ys zs h = IsPermutation-refl _
one-placed false x y ys zs h = IsPermutation-trans _ _ _ (IsPermutation-cons y.1 _ _ h) (IsPermutation-middle (y.1 ∷ []) x.1 (items ys))

placed-items : (x : Keyed) (ys : List Keyed) → IsPermutation (items (placed_by x ys)) (x.1 ∷ items ys)
unfolding placed_by
placed-items x [] = IsPermutation-refl _
placed-items x (y ∷ ys) = one-placed (up_to x.0 y.0) x y ys (placed_by x ys) (placed-items x ys)

sorted-items : (xs : List Keyed) → IsPermutation (items (by_code xs)) (items xs)
unfolding by_code
sorted-items [] = IsPermutation-refl _
sorted-items (x ∷ xs) = IsPermutation-trans _ _ _ (placed-items x (by_code xs)) (IsPermutation-cons x.1 _ _ (sorted-items xs))

keyed-items : (ts : List Tree) → items (map (λ t. (code t, t)) ts) ≡ ts
keyed-items [] = refl
keyed-items (t ∷ ts) = ap (λ us. t ∷ us) (keyed-items ts)

ascending-items : (ts : List Tree) → IsPermutation (ascending ts) ts
unfolding ascending
ascending-items ts = subst (IsPermutation (ascending ts)) (keyed-items ts) (sorted-items (map (λ t. (code t, t)) ts))

trees-listed : (ts : Trees) → trees (listed ts) ≡ ts
trees-listed none = refl
trees-listed (also t ts) = ap (also t) (trees-listed ts)

-- constituents put in order where they have none of their own
in-order : (b : Bool) (l : Label) (us : List Tree) (t : Tree) → (IsTrue b → IsTrue (is_bag l)) → IsTrue (congruent (many l us) t) → IsTrue (congruent (many l (cond b (ascending us) us)) t)
in-order true l us t f h = transitive (many l (ascending us)) (many l us) t (order_of_bag l (ascending us) us (f refl) (ascending-items us)) h
in-order false l us t f h = h

mutual
  pub normal-congruent : (t : Tree) → IsTrue (congruent (normal_form t) t)
  normal-congruent (node l ts) =
      in-order (is_bag l) l (normal_forms ts) (node l ts) (λ b. b)
      (subst (λ us. IsTrue (congruent (many l (normal_forms ts)) (node l us))) (trees-listed ts) (of_forms l (normal_forms ts) (listed ts) (all-congruent ts)))

  all-congruent : (ts : Trees) → AreCongruent (normal_forms ts) (listed ts)
  all-congruent none = tt
  all-congruent (also t ts) = (normal-congruent t, all-congruent ts)

pub normal_form_is_congruent : NormalFormIsCongruent
normal_form_is_congruent = normal-congruent
