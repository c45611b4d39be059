-- The empty process, and a pattern that is one variable.
use Rattle.std.proofs.Common.{◌≡◌, ℕ, false, refl, arith}
use Rattle.std.specs.Prelude.{ltb}
use Rattle.calculus.specs.Normal.{ascending, by_code}
use Rattle.calculus.specs.Matching.{all_matches}
use Rattle.calculus.specs.Unfolding.{unfold_in}
use Rattle.calculus.specs.Laws.{NilOffersNothing, VariableMatchesOnce}

none_below : (cap : ℕ) → ltb cap 0 ≡ false
none_below cap = grind arith

pub nil_offers_nothing : NilOffersNothing
unfolding unfold_in ascending by_code
nil_offers_nothing p cap s = (1, rw (none_below cap) refl)

pub variable_matches_once : VariableMatchesOnce
unfolding all_matches
variable_matches_once t = refl
