-- The names of numbered variables: they differ, and a variable's place among them is found.
use Rattle.std.proofs.Common.{◌≡◌, ℕ, zero, suc, ◌<◌, ◌≤◌, ◌+◌, ◌-◌, ◌^◌, Bool, true, false, cond, List, [], ◌∷◌, ◌++◌, length, reverse, refl, sym, ap, ◌∙◌, arith, ⊎_elim}
use Rattle.std.specs.Prelude.{drop}
use Rattle.std.specs.Fmt.{decimal}
use Rattle.std.specs.Str.{bytes_eq}
use Rattle.std.specs.Str.Parse.{digits_value}
use Rattle.std.proofs.lemmas.Bool.{cases_Bool}
use Rattle.std.proofs.lemmas.Fmt.{decimal_is_IsNumeral_wide}
use Rattle.std.proofs.lemmas.List.{reverse-append, append_assoc}
use Rattle.calculus.specs.Bare.{Names, index}
use Rattle.calculus.specs.Printed.{variable_text}
use Rattle.calculus.proofs.Counting.{bytes_equal, bytes_self}

-- so many names from this number on, in written order
abbrev pub run : ℕ → ℕ → List (List ℕ)
run n zero = []
run n (suc k) = variable_text n ∷ run (suc n) k

-- the names of so many variables in scope, the last one bound first
abbrev pub numbered : ℕ → Names
numbered zero = []
numbered (suc d) = variable_text d ∷ numbered d

pub run-append : (n a b : ℕ) → run n (a + b) ≡ run n a ++ run (n + a) b
run-append n zero b =
    let e : n ≡ n + zero = omega arith in
    let f : zero + b ≡ b = omega arith in
    ap (run n) f ∙ ap (λ m. run m b) e
run-append n (suc a) b =
    let e : suc n + a ≡ n + suc a = omega arith in
    let f : suc a + b ≡ suc (a + b) = omega arith in
    ap (run n) f ∙ ap (λ xs. variable_text n ∷ xs) (run-append (suc n) a b ∙ ap (λ m. run (suc n) a ++ run m b) e)

-- variables that are bound in written order come before those that were in scope
pub in_scope : (d b : ℕ) → reverse (run d b) ++ numbered d ≡ numbered (d + b)
in_scope d zero = let e : d ≡ d + zero = omega arith in ap numbered e
in_scope d (suc b) =
    let e : suc d + b ≡ d + suc b = omega arith in
    ap (λ xs. xs ++ numbered d) (reverse-append (variable_text d ∷ []) (run (suc d) b))
    ∙ append_assoc (reverse (run (suc d) b)) (variable_text d ∷ []) (numbered d)
    ∙ in_scope (suc d) b ∙ ap numbered e

-- names of different numbers differ
pub one_number : (m n : ℕ) → m < 10 ^ 64 → n < 10 ^ 64 → variable_text m ≡ variable_text n → m ≡ n
one_number m n h k e =
    sym (decimal_is_IsNumeral_wide m h).1 ∙ ap (λ xs. digits_value 10 (drop 1 xs)) e ∙ (decimal_is_IsNumeral_wide n k).1

-- a name among names that were bound before the last one
found_later : (x : List ℕ) (d i : ℕ) → (x ≡ variable_text d → ⊥) → index x (numbered d) ≡ i → index x (numbered (suc d)) ≡ suc i
found_later x d i f e =
    ⊎_elim (λ (t : bytes_eq x (variable_text d) ≡ true). absurd (f (bytes_equal x (variable_text d) t)))
    (λ (t : bytes_eq x (variable_text d) ≡ false). ap (λ b. cond b 0 (index x (numbered d) + 1)) t ∙ omega (arith, e))
    (cases_Bool (bytes_eq x (variable_text d)))

-- the name of the variable of an index is found at that index
pub found_at : (d i : ℕ) → i < d → d ≤ 10 ^ 64 → index (variable_text (d - (i + 1))) (numbered d) ≡ i
found_at zero i h k = absurd (omega arith)
found_at (suc d) zero h k =
    let e : suc d - (zero + 1) ≡ d = omega arith in
    ap (λ j. index (variable_text j) (numbered (suc d))) e ∙ ap (λ b. cond b 0 (index (variable_text d) (numbered d) + 1)) (bytes_self (variable_text d))
found_at (suc d) (suc i) h k =
    let e : suc d - (suc i + 1) ≡ d - (i + 1) = omega arith in
    ap (λ j. index (variable_text j) (numbered (suc d))) e
    ∙ found_later (variable_text (d - (i + 1))) d i (λ q. absurd (omega (arith, one_number (d - (i + 1)) d (omega arith) (omega arith) q))) (found_at d i (omega arith) (omega arith))
