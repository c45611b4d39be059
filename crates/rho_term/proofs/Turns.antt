-- A loop over a `Vec` goes over a slice that has the same items.
use Rattle.std.proofs.Common.{◌≡◌, ℕ, ◌<◌, ◌≤◌, List, length, get_or, ap, subst, ◌∙◌}

-- there is one whose turn it is
pub turn-within : {A : Type 0} (ys xs : List A) (i : ℕ) → ys ≡ xs → i < length ys → i < length xs
turn-within ys xs i v h = subst (λ zs. i < length zs) v h

-- it is this one
pub turn-item : {A : Type 0} (ys xs : List A) (i : ℕ) (d : A) → ys ≡ xs → d ≡ get_or ys i d → d ≡ get_or xs i d
turn-item ys xs i d v g = g ∙ ap (λ zs. get_or zs i d) v

-- all had their turn
pub turns-done : {A : Type 0} (ys xs : List A) (i : ℕ) → ys ≡ xs → length ys ≤ i → length xs ≤ i
turns-done ys xs i v h = subst (λ zs. length zs ≤ i) v h
