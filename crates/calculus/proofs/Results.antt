-- What is said of an answer's result, and of one value and of two.
use Rattle.std.specs.Prelude.{⊤, ℕ, List, [], ◌∷◌}
use Rattle.calculus.specs.Tree.{Tree}
use Rattle.calculus.specs.Outcome.{Answer, gives, fails, unknown, Outcome, then_do, after}

-- this is so of an answer's result, where there is one
abbrev pub Gives : {A : Type 0} → (A → Type 0) → Answer A → Type 0
Gives P (gives x) = P x
Gives P (fails f) = ⊤
Gives P unknown = ⊤

then-gives : {A B : Type 0} (P : A → Type 0) (Q : B → Type 0) (n : ℕ) (a : Answer A) (next : A → Outcome B) → Gives P a → ((x : A) → P x → Gives Q (next x).answer) → Gives Q (then_do n a next).answer
then-gives P Q n (gives x) next h k = k x h
then-gives P Q n (fails f) next h k = tt
then-gives P Q n unknown next h k = tt

-- of the next work's result, where it is so whatever the first gives
pub after-gives : {A B : Type 0} (P : A → Type 0) (Q : B → Type 0) (o : Outcome A) (next : A → Outcome B) → Gives P o.answer → ((x : A) → P x → Gives Q (next x).answer) → Gives Q (after o next).answer
after-gives P Q o next h k = then-gives P Q o.price o.answer next h k

-- there is one value, and it is so
abbrev pub IsOne : (Tree → Type 0) → List Tree → Type 0
IsOne P (v ∷ []) = P v
IsOne P _ = ⊥

-- there are two values, and they are so
abbrev pub AreTwo : (Tree → Type 0) → (Tree → Type 0) → List Tree → Type 0
AreTwo P Q (v ∷ w ∷ []) = P v × Q w
AreTwo P Q _ = ⊥

pub two-of : (P Q : Tree → Type 0) (x : Tree) (xs : List Tree) → P x → IsOne Q xs → AreTwo P Q (x ∷ xs)
two-of P Q x (y ∷ []) h k = (h, k)
two-of P Q x [] h k = absurd k
two-of P Q x (y ∷ z ∷ zs) h k = absurd k
