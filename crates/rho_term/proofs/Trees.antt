-- Trees of a list, one at a time.
use Rattle.std.proofs.Common.{◌≡◌, ℕ, zero, suc, ◌<◌, ◌≤◌, List, [], ◌∷◌, map, length, get_or, refl, ap, arith}
use Rattle.calculus.specs.Tree.{Tree, node, trees, weight, weights}
use Rattle.rho_term.specs.Normal.{IsNormal, AreNormal, IsOrdered}

-- one tree of a list is no heavier than all of them
pub weight-at : {A : Type 0} (f : A → Tree) (xs : List A) (i : ℕ) (d : A) → i < length xs → weight (f (get_or xs i d)) ≤ weights (trees (map f xs))
weight-at f [] i d h = absurd (omega arith)
weight-at f (x ∷ xs) zero d h = omega arith
weight-at f (x ∷ xs) (suc i) d h = omega (arith, weight-at f xs i d (omega arith))

pub tree-at : (ts : List Tree) (i : ℕ) (d : Tree) → i < length ts → weight (get_or ts i d) ≤ weights (trees ts)
tree-at [] i d h = absurd (omega arith)
tree-at (t ∷ ts) zero d h = omega arith
tree-at (t ∷ ts) (suc i) d h = omega (arith, tree-at ts i d (omega arith))

pub map-same : (ts : List Tree) → map (λ t. t) ts ≡ ts
map-same [] = refl
map-same (t ∷ ts) = ap (λ us. t ∷ us) (map-same ts)

-- a tree in normal order has its own constituents in order
ordered : (t : Tree) → IsNormal t → IsOrdered t
ordered (node l ts) h = h.0

-- so has one of a list of such
pub ordered-at : {A : Type 0} (f : A → Tree) (xs : List A) (i : ℕ) (d : A) → i < length xs → AreNormal (trees (map f xs)) → IsOrdered (f (get_or xs i d))
ordered-at f [] i d h n = absurd (omega arith)
ordered-at f (x ∷ xs) zero d h n = ordered (f x) n.0
ordered-at f (x ∷ xs) (suc i) d h n = ordered-at f xs i d (omega arith) n.1
