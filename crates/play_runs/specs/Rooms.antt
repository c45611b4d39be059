-- The least room in which it is known what a process unfolds to, and what that is.
use Rattle.std.specs.Prelude.{◌≡◌, ◌<◌, ◌⊎◌, ℕ, Bool, true, false, List, Option, Some, None, is_some}
use Rattle.std.specs.Coded.{×_prop, Π_prop}
use Rattle.std.proofs.lemmas.Bool.{true≢false, cases_order}
use mathlib.Core.Path.{sym, ◌∙◌}
use mathlib.Core.Logic.{inl, inr}
use mathlib.Core.HLevel.{Σ_prop_path}
use mathlib.Core.Bool.{Bool-set}
use Rattle.calculus.specs.Tree.{Tree}
use Rattle.calculus.specs.Outcome.{Prices, over, capped}
use Rattle.calculus.specs.Unfolding.{unfold_in}
use Rattle.calculus.specs.Runs.{Work}

-- whether it is known in a room what a process unfolds to
abbrev pub is_known_in : Prices → ℕ → Tree → List ℕ → ℕ → Bool
is_known_in p cap t s room = is_some (capped cap (unfold_in p room t s))

-- the work, where it is known
abbrev pub known_or_over : Option Work → Work
known_or_over None = over
known_or_over (Some w) = w

-- what a process unfolds to in a room
abbrev pub work_in : Prices → ℕ → Tree → List ℕ → ℕ → Work
work_in p cap t s room = known_or_over (capped cap (unfold_in p room t s))

-- this is the least number of which a test holds
abbrev pub IsLeast : (ℕ → Bool) → ℕ → Type 0
IsLeast f n = (f n ≡ true) × ((m : ℕ) → m < n → f m ≡ false)

-- there is one such number at most
one-least : (f : ℕ → Bool) (n m : ℕ) → IsLeast f n → IsLeast f m → n ≡ m
one-least f n m h k = go (cases_order n m)
  where
    go : (n ≡ m) ⊎ ((n < m) ⊎ (m < n)) → n ≡ m
    go (inl e) = e
    go (inr (inl l)) = absurd (true≢false (sym h.0 ∙ k.1 n l))
    go (inr (inr l)) = absurd (true≢false (sym k.0 ∙ h.1 m l))

-- so that it is a fact
pub least-prop : (f : ℕ → Bool) → IsProp ((n : ℕ) × IsLeast f n)
least-prop f u v = Σ_prop_path (λ n. ×_prop (Bool-set (f n) true) (Π_prop (λ m. Π_prop (λ l. Bool-set (f m) false)))) (one-least f u.0 v.0 u.1 v.1)

-- this is the least room in which it is known what a process unfolds to
abbrev pub IsLeastRoom : Prices → ℕ → Tree → List ℕ → ℕ → Type 0
IsLeastRoom p cap t s n = IsLeast (is_known_in p cap t s) n

-- there is one such room at most
pub least_room-prop : (p : Prices) (cap : ℕ) (t : Tree) (s : List ℕ) → IsProp ((n : ℕ) × IsLeastRoom p cap t s n)
least_room-prop p cap t s = least-prop (is_known_in p cap t s)
