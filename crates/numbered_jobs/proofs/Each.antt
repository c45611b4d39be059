-- What is so of things at all numbers is so of each with its own, and what work came to.
use Rattle.std.proofs.Common.{ℕ, List, [], ◌∷◌, map as each}
use Rattle.std.specs.Prelude.{Result, Ok, Err, IfOk}
use Rattle.std.specs.List.{All}
use Rattle.std.proofs.lemmas.List.Elements.{All-nil, All-cons, All-head, All-tail}

pub each-numbered : {A : Type 0} (P : ℕ → A → Type 0) (js : List (ℕ × A)) → ((n : ℕ) → All (P n) (each (λ j. j.1) js)) → All (λ j. P j.0 j.1) js
each-numbered P [] h = All-nil (λ j. P j.0 j.1)
each-numbered P (j ∷ js) h = All-cons (λ j. P j.0 j.1) j js (All-head (P j.0) j.1 (each (λ j. j.1) js) (h j.0)) (each-numbered P js (λ n. All-tail (P n) j.1 (each (λ j. j.1) js) (h n)))

-- two facts of a result at once
pub both-ok : {A E : Type 0} (r : Result A E) (P Q : A → Type 0) → IfOk r P → IfOk r Q → IfOk r (λ x. P x × Q x)
both-ok (Ok x) P Q h k = (h, k)
both-ok (Err e) P Q h k = tt
