-- A list of the new indices has the new index of each variable.
use Rattle.std.proofs.Common.{◌≡◌, ℕ, ◌-◌, ◌<◌, min, List, [], ◌∷◌, length, get_or, ap, sym, ◌∙◌, arith}
use mathlib.Core.Path.{fun_ext}
use Rattle.calculus.specs.Unfolding.{place_in, new_index}
use Rattle.substitution.specs.Becoming.{index_in}

-- the new index of a variable whose index is past the last one is that of the last one
past-last : (places : List ℕ) (k : ℕ) → new_index places k ≡ new_index places (min k (length places - 1))
past-last places k =
    let e : (length places - 1) - k ≡ (length places - 1) - min k (length places - 1) = omega arith in
    ap (λ q. (length places - 1) - place_in places q) e

index-known : (places ns : List ℕ) → length ns ≡ length places → ((k : ℕ) → k < length places → get_or ns k 0 ≡ new_index places k) → (k : ℕ) → index_in ns k ≡ new_index places k
index-known [] [] e h k = omega arith
index-known [] (n ∷ ns) e h k = absurd (omega arith)
index-known (p ∷ ps) ns e h k =
    let q : min k (length ns - 1) ≡ min k (length (p ∷ ps) - 1) = ap (λ j. min k (j - 1)) e in
    ap (λ j. get_or ns j 0) q ∙ h (min k (length (p ∷ ps) - 1)) (omega arith) ∙ sym (past-last (p ∷ ps) k)

pub indices-known : (places ns : List ℕ) → length ns ≡ length places → ((k : ℕ) → k < length places → get_or ns k 0 ≡ new_index places k) → index_in ns ≡ new_index places
indices-known places ns e h = fun_ext (λ k. index-known places ns e h k)
