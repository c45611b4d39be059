-- Fronts of a text.
use Rattle.std.specs.Prelude.{ℕ, zero, suc, ◌+◌, Bool, if◌then◌else◌, List, [], ◌∷◌, length, take, nat_eq, Option, Some, None}
use Rattle.std.specs.Option.{option_map}
use Rattle.std.specs.List.{starts_with}

-- the greatest length up to n at which the front of the text passes the test, or 0
abbrev pub front_up_to : (List ℕ → Bool) → List ℕ → ℕ → ℕ
front_up_to test text zero = 0
front_up_to test text (suc n) = if test (take (suc n) text) then suc n else front_up_to test text n

-- the length of the longest front of the text that passes the test, or 0
unfoldable pub longest_front : (List ℕ → Bool) → List ℕ → ℕ
longest_front test text = front_up_to test text (length text)

-- the first place from which the text goes on with the needle
unfoldable pub place_of : List ℕ → List ℕ → Option ℕ
place_of needle [] = None
place_of needle (b ∷ bs) =
    if starts_with nat_eq (b ∷ bs) needle then Some 0
    else option_map (λ n. n + 1) (place_of needle bs)
