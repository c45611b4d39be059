-- Laws of permutations. Each stands in the contract of a public function that does nothing.
use Rattle.std.specs.Prelude.{List, IsPermutation}
use Rattle.calculus.specs.Exchanges.{Exchanges}

-- exchanges of neighbours, under members that stay, permute a list
abbrev pub ExchangesPermute : Type 0 → Type 0
ExchangesPermute A = (xs ys : List A) → Exchanges xs ys → IsPermutation xs ys

-- each permutation is made by such exchanges
abbrev pub PermutationsExchange : Type 0 → Type 0
PermutationsExchange A = (xs ys : List A) → IsPermutation xs ys → Exchanges xs ys
