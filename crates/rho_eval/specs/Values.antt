-- The values of processes and parts.
use Rattle.std.specs.Prelude.{◌≡◌, ℕ, Some}
use Rattle.calculus.specs.Tree.{Tree}
use Rattle.calculus.specs.Shape.{only}
use Rattle.calculus.specs.Outcome.{Prices, pure, Capped, capped}
use Rattle.calculus.specs.Values.{value}

-- a part that is its own value, at no price
abbrev pub IsOwnValue : Tree → Type 0
IsOwnValue t = (p : Prices) → value p t ≡ pure (only t)

-- what evaluation comes to under the cap
abbrev pub Evaluates : Prices → ℕ → Tree → Capped Tree → Type 0
Evaluates p cap t w = capped cap (value p t) ≡ Some w
