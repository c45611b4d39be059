-- Laws of values. Each stands in the contract of a public function that does nothing.
use Rattle.std.specs.Prelude.{◌≡◌, ⊤, IsTrue}
use Rattle.calculus.specs.Tree.{Tree}
use Rattle.calculus.specs.Congruence.{congruent}
use Rattle.calculus.specs.Code.{code}
use Rattle.calculus.specs.Outcome.{Prices, Answer, gives, fails, unknown, Outcome}
use Rattle.calculus.specs.Values.{value}
use Rattle.process_laws.specs.MatchingLaws.{AreTargets}

-- congruent trees of any kind have one code
abbrev pub CodesAreKept : Type 0
CodesAreKept = (t u : Tree) → IsTrue (congruent t u) → code t ≡ code u

-- congruent values, or one fault
abbrev pub IsSameAnswer : Answer Tree → Answer Tree → Type 0
IsSameAnswer (gives x) (gives y) = IsTrue (congruent x y)
IsSameAnswer (fails f) (fails g) = f ≡ g
IsSameAnswer unknown unknown = ⊤
IsSameAnswer _ _ = ⊥

-- one price, and congruent values or one fault
abbrev pub AreSame : Outcome Tree → Outcome Tree → Type 0
AreSame o q = (o.price ≡ q.price) × IsSameAnswer o.answer q.answer

-- congruent closed processes with short codes have congruent values at one price, or end at one price with one fault
abbrev pub ValuesAreAlike : Type 0
ValuesAreAlike = (p : Prices) (t u : Tree) → AreTargets t u → AreSame (value p t) (value p u)
