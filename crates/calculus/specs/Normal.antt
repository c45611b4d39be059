-- Trees and other things in ascending order of codes.
use Rattle.std.specs.Prelude.{ℕ, cond, List, [], ◌∷◌, map as each}
use Rattle.calculus.specs.Tree.{Label, Tree, node, trees}
use Rattle.calculus.specs.Order.{up_to}
use Rattle.calculus.specs.Congruence.{is_bag}
use Rattle.calculus.specs.Code.{code}

-- a thing with its code among such pairs, before the first whose code is not less
unfoldable pub placed_by : {A : Type 0} → List ℕ × A → List (List ℕ × A) → List (List ℕ × A)
placed_by x [] = x ∷ []
placed_by x (y ∷ ys) = cond (up_to x.0 y.0) (x ∷ y ∷ ys) (y ∷ placed_by x ys)

-- things with their codes, ascending in the codes
unfoldable pub by_code : {A : Type 0} → List (List ℕ × A) → List (List ℕ × A)
by_code [] = []
by_code (x ∷ xs) = placed_by x (by_code xs)

-- these things, ascending in the codes beside them
abbrev pub arranged_by : {A : Type 0} → List (List ℕ × A) → List A
arranged_by xs = each (λ p. p.1) (by_code xs)

-- these trees, ascending in their codes
unfoldable pub ascending : List Tree → List Tree
ascending ts = arranged_by (each (λ t. (code t, t)) ts)

-- a form with these constituents: parts and the members of a set or map are put in ascending order, all else stands as given
abbrev pub made_node : Label → List Tree → Tree
made_node l ts = node l (trees (cond (is_bag l) (ascending ts) ts))
