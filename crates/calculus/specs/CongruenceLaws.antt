-- Laws of congruence. Each stands in the contract of a public function that does nothing.
use Rattle.std.specs.Prelude.{◌≡◌, List, [], ◌∷◌, ⊤, IsTrue}
use Rattle.std.specs.List.Sorted.{IsPermutation}
use Rattle.calculus.specs.Tree.{Label, Tree}
use Rattle.calculus.specs.Shape.{many}
use Rattle.calculus.specs.Size.{height}
use Rattle.calculus.specs.Congruence.{is_bag, congruent}

-- congruence goes both ways
abbrev pub CongruenceIsSymmetric : Type 0
CongruenceIsSymmetric = (t u : Tree) → IsTrue (congruent t u) → IsTrue (congruent u t)

-- what is congruent to one thing is congruent to what that is congruent to
abbrev pub CongruenceIsTransitive : Type 0
CongruenceIsTransitive = (t u v : Tree) → IsTrue (congruent t u) → IsTrue (congruent u v) → IsTrue (congruent t v)

-- as many trees on both sides, congruent one by one
abbrev pub AreCongruent : List Tree → List Tree → Type 0
AreCongruent [] [] = ⊤
AreCongruent [] (u ∷ us) = ⊥
AreCongruent (t ∷ ts) [] = ⊥
AreCongruent (t ∷ ts) (u ∷ us) = IsTrue (congruent t u) × AreCongruent ts us

-- a form is congruent to the same form with congruent constituents
abbrev pub CongruenceOfForms : Type 0
CongruenceOfForms = (l : Label) (ts us : List Tree) → AreCongruent ts us → IsTrue (congruent (many l ts) (many l us))

-- a process, a set or a map is congruent to itself with its constituents in another order
abbrev pub OrderOfBag : Type 0
OrderOfBag = (l : Label) (ts us : List Tree) → IsTrue (is_bag l) → IsPermutation ts us → IsTrue (congruent (many l ts) (many l us))

-- congruent processes have one height
abbrev pub CongruentHeights : Type 0
CongruentHeights = (t u : Tree) → IsTrue (congruent t u) → height t ≡ height u
