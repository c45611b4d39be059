-- Laws of normal terms. Each stands in the contract of a public function that does nothing.
use Rattle.std.specs.Prelude.{◌≡◌, IsTrue}
use Rattle.calculus.specs.Tree.{Tree}
use Rattle.calculus.specs.Form.{IsClosed}
use Rattle.calculus.specs.Congruence.{congruent}
use Rattle.calculus.specs.Code.{code}
use Rattle.calculus.specs.CodeLaws.{IsShort}
use Rattle.rho_term.specs.Normal.{IsNormal}

-- closed processes in normal order are one where they have one code
abbrev pub NormalCodesAreOne : Type 0
NormalCodesAreOne = (t u : Tree) → IsClosed t → IsClosed u → IsShort t → IsShort u → IsNormal t → IsNormal u → code t ≡ code u → t ≡ u

-- closed processes in normal order are equal exactly where they are congruent
abbrev pub NormalTermsAreOne : Type 0
NormalTermsAreOne = (t u : Tree) → IsClosed t → IsClosed u → IsShort t → IsShort u → IsNormal t → IsNormal u
    → (IsTrue (congruent t u) → t ≡ u) × (t ≡ u → IsTrue (congruent t u))
