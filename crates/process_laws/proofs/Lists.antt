-- What is so of each thing of a list.
use Rattle.std.proofs.Common.{ℕ, Bool, true, false, cond, List, [], ◌∷◌, map as each}
use Rattle.std.specs.Prelude.{zip}
use Rattle.calculus.proofs.Members.{Every, every-each}
use Rattle.calculus.specs.Tree.{Tree}
use Rattle.calculus.specs.Order.{up_to}
use Rattle.calculus.specs.Code.{code}
use Rattle.calculus.specs.Normal.{placed_by, by_code, arranged_by, ascending}

-- a second thing with its code
abbrev Second : {A : Type 0} → (A → Type 0) → List ℕ × A → Type 0
Second P p = P p.1

placed-every : {A : Type 0} (P : A → Type 0) (x : List ℕ × A) (xs : List (List ℕ × A)) → P x.1 → Every (Second P) xs → Every (Second P) (placed_by x xs)
unfolding placed_by
placed-every P x [] h k = (h, tt)
placed-every {A} P x (z ∷ zs) h k =
    elim (up_to x.0 z.0) as (λ (b : Bool). Every (Second P) (cond b (x ∷ z ∷ zs) (z ∷ placed_by x zs))) [ true ↦ (h, k) | false ↦ (k.0, placed-every P x zs h k.1) ]

by_code-every : {A : Type 0} (P : A → Type 0) (xs : List (List ℕ × A)) → Every (Second P) xs → Every (Second P) (by_code xs)
unfolding by_code
by_code-every P [] h = tt
by_code-every P (x ∷ xs) h = placed-every P x (by_code xs) h.0 (by_code-every P xs h.1)

-- what is put in order keeps what is said of each
pub arranged-every : {A : Type 0} (P : A → Type 0) (xs : List (List ℕ × A)) → Every (Second P) xs → Every P (arranged_by xs)
arranged-every P xs h = every-each P (Second P) (λ p. p.1) (λ x k. k) (by_code xs) (by_code-every P xs h)

pub ascending-every : (P : Tree → Type 0) (ts : List Tree) → Every P ts → Every P (ascending ts)
unfolding ascending
ascending-every P ts h = arranged-every P (each (λ t. (code t, t)) ts) (every-each (Second P) P (λ t. (code t, t)) (λ x k. k) ts h)

pub zip-every : {A : Type 0} (P : A → Type 0) (cs : List (List ℕ)) (os : List A) → Every P os → Every (λ p. P p.1) (zip cs os)
zip-every P [] os h = tt
zip-every P (c ∷ cs) [] h = tt
zip-every P (c ∷ cs) (o ∷ os) h = (h.0, zip-every P cs os h.1)
