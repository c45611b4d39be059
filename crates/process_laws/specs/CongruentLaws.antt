-- Laws of congruent processes that unfold. Each stands in the contract of a public function that does nothing.
use Rattle.std.specs.Prelude.{◌≡◌, ◌<◌, ◌^◌, ⊤, ℕ, List, length, IsTrue}
use Rattle.std.specs.List.{AllZip}
use Rattle.calculus.specs.Tree.{Tree}
use Rattle.calculus.specs.Form.{IsClosed}
use Rattle.calculus.specs.Congruence.{congruent}
use Rattle.calculus.specs.Code.{code}
use Rattle.calculus.specs.Outcome.{Prices, Answer, gives, fails, over, within}
use Rattle.calculus.specs.Rows.{row_code}
use Rattle.calculus.specs.Unfolding.{Product, a_row, a_fresh, Unfolds}
use Rattle.calculus.specs.Runs.{Work}

-- one fresh name, or rows with one id and one code, whose parts are congruent
abbrev pub IsSameThing : Product → Product → Type 0
IsSameThing (a_row r) (a_row q) = (r.id ≡ q.id) × IsTrue (congruent r.part q.part) × (row_code r ≡ row_code q)
IsSameThing (a_fresh x) (a_fresh y) = x ≡ y
IsSameThing _ _ = ⊥

-- as many such things in one order, or one fault
abbrev pub IsSameOffer : Answer (List Product) → Answer (List Product) → Type 0
IsSameOffer (gives ts) (gives us) = AllZip IsSameThing ts us
IsSameOffer (fails f) (fails g) = f ≡ g
IsSameOffer _ _ = ⊥

-- both beyond the cap, or such an offer at one price
abbrev pub IsSameWork : Work → Work → Type 0
IsSameWork over over = ⊤
IsSameWork (within o) (within q) = (o.price ≡ q.price) × IsSameOffer o.answer q.answer
IsSameWork _ _ = ⊥

-- congruent closed processes with codes below 2^28 bytes unfold alike, whatever the prices, the cap and the seed
abbrev pub UnfoldingsAreAlike : Type 0
UnfoldingsAreAlike = (p : Prices) (cap : ℕ) (t u : Tree) (s : List ℕ) → IsClosed t → IsClosed u → length (code t) < 2 ^ 28 → length (code u) < 2 ^ 28 → IsTrue (congruent t u)
    → (v w : Work) → Unfolds p cap t s v → Unfolds p cap u s w → IsSameWork v w
