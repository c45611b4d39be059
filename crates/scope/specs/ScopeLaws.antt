-- Laws of normal forms. Each stands in the contract of a public function that does nothing.
use Rattle.std.specs.Prelude.{IsTrue}
use Rattle.calculus.specs.Tree.{Tree}
use Rattle.calculus.specs.Congruence.{congruent}
use Rattle.scope.specs.NormalForm.{normal_form}

-- a tree is congruent to its normal form
abbrev pub NormalFormIsCongruent : Type 0
NormalFormIsCongruent = (t : Tree) → IsTrue (congruent (normal_form t) t)
