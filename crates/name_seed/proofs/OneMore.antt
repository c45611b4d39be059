-- One more digest at the end of those that a message holds.
use Rattle.std.proofs.Common.{◌≡◌, ℕ, ◌+◌, ◌<◌, List, ◌∷◌, ◌++◌, map, take, length, get_or, ap, ◌∙◌, append_assoc}
use Rattle.calculus.specs.Bytes.{joined}
use Rattle.calculus.proofs.BytesLemmas.{joined-take}

pub one_more : {A : Type 0} (f : A → List ℕ) (c ns ys : List ℕ) (xs : List A) (i : ℕ) (d : A) → i < length xs → ys ≡ f (get_or xs i d)
    → (0x06 ∷ (c ++ (ns ++ joined (map f (take i xs))))) ++ ys ≡ 0x06 ∷ (c ++ (ns ++ joined (map f (take (i + 1) xs))))
one_more f c ns ys xs i d h is =
    let j = joined (map f (take i xs)) in
    let y = f (get_or xs i d) in
    rw (joined-take f xs i d h, is) (ap (λ l. 0x06 ∷ l) (append_assoc c (ns ++ j) y ∙ ap (λ l. c ++ l) (append_assoc ns j y)))
