-- How lists that ascend in their keys are walked.
use Rattle.std.specs.Prelude.{◌≡◌, ℕ, Bool, false, cond, List, [], ◌∷◌, drop, All}
use Rattle.calculus.specs.Order.{up_to}
use Rattle.calculus.specs.Tree.{Tree}
use Rattle.calculus.specs.Code.{code}
use Rattle.value_ops.specs.Answers.{IsOperand}
use Rattle.coll_ops.specs.Keys.{same}

-- those at the front whose keys are less than this one
abbrev pub low : {X : Type 0} → (X → List ℕ) → List ℕ → List X → List X
low k c [] = []
low k c (y ∷ ys) = cond (up_to c (k y)) [] (y ∷ low k c ys)

-- those after them
abbrev pub high : {X : Type 0} → (X → List ℕ) → List ℕ → List X → List X
high k c [] = []
high k c (y ∷ ys) = cond (up_to c (k y)) (y ∷ ys) (high k c ys)

-- whether the first of these has this key
abbrev pub starts : {X : Type 0} → (X → List ℕ) → List ℕ → List X → Bool
starts k c [] = false
starts k c (y ∷ ys) = same (k y) c

-- whether the last of these has this key
abbrev pub ends : {X : Type 0} → (X → List ℕ) → List ℕ → List X → Bool
ends k c [] = false
ends k c (z ∷ []) = same (k z) c
ends k c (z ∷ w ∷ zs) = ends k c (w ∷ zs)

-- one thing more at the end, in place of the last where that has its key
abbrev pub put_last : {X : Type 0} → (X → List ℕ) → List X → X → List X
put_last k [] x = x ∷ []
put_last k (z ∷ []) x = cond (same (k z) (k x)) (x ∷ []) (z ∷ x ∷ [])
put_last k (z ∷ w ∷ zs) x = z ∷ put_last k (w ∷ zs) x

-- these, one after another
abbrev pub put_all : {X : Type 0} → (X → List ℕ) → List X → List X → List X
put_all k zs [] = zs
put_all k zs (x ∷ xs) = put_all k (put_last k zs x) xs

-- from the one place on, the first key that is not less than this one stands at the other, and is this one or not
pub record IsSought {X : Type 0} (f : X → Tree) (t : Tree) (xs : List X) (start place : ℕ) (found : Bool) : Type 0 where
  pub rest : drop place xs ≡ high (λ x. code (f x)) (code t) (drop start xs)
  pub has : found ≡ starts (λ x. code (f x)) (code t) (drop place xs)

-- those from the one place on whose keys are less than this one were put, up to the other place
pub record PutsBelow {X : Type 0} (f : X → Tree) (t : Tree) (xs : List X) (start place : ℕ) (before after : List X) : Type 0 where
  pub items : after ≡ put_all (λ x. code (f x)) before (low (λ x. code (f x)) (code t) (drop start xs))
  pub rest : drop place xs ≡ high (λ x. code (f x)) (code t) (drop start xs)
  pub keys : All (λ x. IsOperand (f x)) after
