-- What an answer tells of the work that gave it.
use Rattle.std.proofs.Common.{◌≡◌, ◌≤◌, Bool, true, false, cond, List, [], ◌∷◌, length, refl, subst}
use Rattle.std.specs.Prelude.{ltb}
use Rattle.std.proofs.lemmas.Bool.{ltb-false}
use Rattle.calculus.specs.declared.fault.FaultKind.{FaultKind}
use Rattle.calculus.specs.declared.fault.FaultKind.TheVariants as fault
use Rattle.calculus.specs.Tree.{Tree}
use Rattle.calculus.specs.Size.{height}
use Rattle.calculus.specs.Code.{code}
use Rattle.calculus.specs.Outcome.{Answer, gives, fails, unknown, Outcome, then_do, after, within_limits}
use Rattle.calculus.specs.Rows.{Row, row_length}
use Rattle.calculus.specs.Unfolding.{Product, a_row, row_limits}
use Rattle.calculus.specs.Values.{checked}

-- work after which other work gave a result gave one too
pub after-inv : {A B : Type 0} (o : Outcome A) (f : A → Outcome B) (y : B) → (after o f).answer ≡ gives y → (x : A) × (o.answer ≡ gives x) × ((f x).answer ≡ gives y)
after-inv {A} {B} o f y e = go o.answer refl e
  where
    go : (a : Answer A) → o.answer ≡ a → (then_do o.price a f).answer ≡ gives y → (x : A) × (o.answer ≡ gives x) × ((f x).answer ≡ gives y)
    go (gives x) d h = (x, d, h)
    go (fails c) d h = cc
    go unknown d h = cc

-- a result that a test lets through
pub yes-gives : {A : Type 0} (b : Bool) (a : Answer A) (f : FaultKind) (x : A) → cond b a (fails f) ≡ gives x → a ≡ gives x
yes-gives true a f x e = e
yes-gives false a f x e = cc

pub no-gives : {A : Type 0} (b : Bool) (a : Answer A) (f : FaultKind) (x : A) → cond b (fails f) a ≡ gives x → a ≡ gives x
no-gives true a f x e = cc
no-gives false a f x e = e

pub limits-give : (r : Row) (xs : List Product) → row_limits r ≡ gives xs → a_row r ∷ [] ≡ xs
limits-give r xs e =
    let a = no-gives (ltb 400 (height r.part)) (cond (ltb 1048576 (row_length r)) (fails fault.TooBig) (gives (a_row r ∷ []))) fault.TooDeep xs e in
    let b = no-gives (ltb 1048576 (row_length r)) (gives (a_row r ∷ [])) fault.TooBig xs a in
    cc b

-- a process within the limits is itself, and short
pub within-short : (t u : Tree) → within_limits t ≡ gives u → (t ≡ u) × (length (code u) ≤ 1048576)
within-short t u e = go (ltb 1048576 (length (code t))) refl (no-gives (ltb 400 (height t)) (cond (ltb 1048576 (length (code t))) (fails fault.TooBig) (gives t)) fault.TooDeep u e)
  where
    go : (b : Bool) → ltb 1048576 (length (code t)) ≡ b → cond b (fails fault.TooBig) (gives t) ≡ gives u → (t ≡ u) × (length (code u) ≤ 1048576)
    go true d f = cc
    go false d f = let same : t ≡ u = cc in (same, subst (λ (v : Tree). length (code v) ≤ 1048576) same (ltb-false 1048576 (length (code t)) d))

pub checked-short : (a : Answer Tree) (u : Tree) → checked a ≡ gives u → length (code u) ≤ 1048576
checked-short (gives t) u e = (within-short t u e).1
checked-short (fails f) u e = cc
checked-short unknown u e = cc
