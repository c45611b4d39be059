-- Codes of forms that hold lists.
use Rattle.std.proofs.Common.{◌≡◌, ℕ, suc, true, false, List, [], ◌∷◌, ◌++◌, map, length, refl, ap, arith}
use Rattle.calculus.specs.Bytes.{joined}
use Rattle.calculus.specs.Order.{sorted, placed, IsAscending}
use Rattle.calculus.specs.Tree.{Label, Tree, trees}
use Rattle.calculus.specs.Shape.{count, many}
use Rattle.calculus.specs.Congruence.{is_bag}
use Rattle.calculus.specs.Code.{code, codes, head}

-- what ascends is sorted already
pub sorted-ascending : (cs : List (List ℕ)) → IsAscending cs → sorted cs ≡ cs
unfolding sorted placed
sorted-ascending [] h = refl
sorted-ascending (c ∷ []) h = refl
sorted-ascending (c ∷ d ∷ cs) h = rw (sorted-ascending (d ∷ cs) h.1, h.0)

pub codes-trees : (ts : List Tree) → codes (trees ts) ≡ map code ts
codes-trees [] = refl
codes-trees (t ∷ ts) = ap (λ cs. code t ∷ cs) (codes-trees ts)

pub count-trees : (ts : List Tree) → count (trees ts) ≡ length ts
count-trees [] = refl
count-trees (t ∷ ts) = omega (arith, count-trees ts)

map-map : {A B C : Type 0} (f : A → B) (g : B → C) (xs : List A) → map g (map f xs) ≡ map (λ x. g (f x)) xs
map-map f g [] = refl
map-map f g (x ∷ xs) = ap (λ ys. g (f x) ∷ ys) (map-map f g xs)

pub length-map : {A B : Type 0} (f : A → B) (xs : List A) → length (map f xs) ≡ length xs
length-map f [] = refl
length-map f (x ∷ xs) = ap suc (length-map f xs)

-- a form that holds a list of trees, as written
pub code-trees : (l : Label) (ts : List Tree) → is_bag l ≡ false → code (many l ts) ≡ head l (length ts) ++ joined (map code ts)
code-trees l ts h = rw (codes-trees ts, count-trees ts, h)

-- a form that holds a list of trees, which ascend
pub code-bag_trees : (l : Label) (ts : List Tree) → is_bag l ≡ true → IsAscending (codes (trees ts)) → code (many l ts) ≡ head l (length ts) ++ joined (map code ts)
code-bag_trees l ts h up = rw (h, sorted-ascending (codes (trees ts)) up, codes-trees ts, count-trees ts)

-- a form that holds a list of things that stand for trees, as written
pub code-many : {A : Type 0} (l : Label) (f : A → Tree) (xs : List A) → is_bag l ≡ false
    → code (many l (map f xs)) ≡ head l (length xs) ++ joined (map (λ x. code (f x)) xs)
code-many l f xs h = rw (code-trees l (map f xs) h, map-map f code xs, length-map f xs)

-- a form that holds a list of things that stand for trees, which ascend
pub code-bag : {A : Type 0} (l : Label) (f : A → Tree) (xs : List A) → is_bag l ≡ true → IsAscending (codes (trees (map f xs)))
    → code (many l (map f xs)) ≡ head l (length xs) ++ joined (map (λ x. code (f x)) xs)
code-bag l f xs h up = rw (code-bag_trees l (map f xs) h up, map-map f code xs, length-map f xs)
