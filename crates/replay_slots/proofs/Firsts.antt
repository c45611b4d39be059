-- A list and its first member.
use Rattle.std.proofs.Common.{◌≡◌, ◌≤◌, ◌-◌, ℕ, suc, List, [], ◌∷◌, length, sym, ap, ◌∙◌, arith, get_or, take, drop}
use Rattle.std.proofs.Math.Seq.{take-length}

-- a list of at least one member is its first with the others
pub first-of : {A : Type 0} (xs : List A) (x : A) → 1 ≤ length xs → x ≡ get_or xs 0 x → xs ≡ x ∷ take (length xs - 1) (drop 1 xs)
first-of [] x h e = absurd (omega (arith, h))
first-of (y ∷ ys) x h e = ap (λ z. z ∷ ys) (sym e) ∙ ap (λ l. x ∷ l) (sym (take-length ys) ∙ ap (λ n. take n ys) one-less)
  where
    one-less : length ys ≡ suc (length ys) - 1
    one-less = omega arith
