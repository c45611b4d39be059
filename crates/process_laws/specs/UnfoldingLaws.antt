-- Laws of unfoldings. Each stands in the contract of a public function that does nothing.
use Rattle.std.specs.Prelude.{◌≡◌, ℕ, List}
use Rattle.calculus.specs.Tree.{Tree}
use Rattle.calculus.specs.Form.{IsClosed}
use Rattle.calculus.specs.Outcome.{Prices}
use Rattle.calculus.specs.Unfolding.{Unfolds}

-- P is so of exactly one thing
abbrev pub ExactlyOne : {A : Type 0} → (A → Type 0) → Type 0
ExactlyOne {A} P = (x : A) × P x × ((y : A) → P y → x ≡ y)

-- each closed process unfolds to exactly one thing, whatever the prices, the cap and the seed
abbrev pub EachProcessUnfolds : Type 0
EachProcessUnfolds = (p : Prices) (cap : ℕ) (t : Tree) (s : List ℕ) → IsClosed t → ExactlyOne (Unfolds p cap t s)
