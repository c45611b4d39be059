-- Each closed process unfolds.
use Rattle.std.proofs.Common.{◌≡◌, ℕ, Bool, true, false, cond, ltb, [], Some, refl, arith}
use Rattle.std.specs.Prelude.{option_map}
use Rattle.calculus.specs.Tree.{Tree, weight}
use Rattle.calculus.specs.Form.{term, IsClosed}
use Rattle.calculus.specs.Outcome.{Prices, Answer, gives, fails, unknown, Outcome, Capped, over, within, known, capped}
use Rattle.calculus.specs.Unfolding.{unfold_in}
use Rattle.calculus.proofs.States.{one_unfolding}
use Rattle.process_laws.specs.UnfoldingLaws.{EachProcessUnfolds}
use Rattle.process_laws.proofs.Goodness.{a_term}
use Rattle.process_laws.proofs.Answering.{IsKnownWith}
use Rattle.process_laws.proofs.Rooms.{IsAnything, IsSure}
use Rattle.process_laws.proofs.Unfolded.{EndsWell, ends-term, IsEndingLeaf}
use Rattle.process_laws.proofs.Induction.{built-good}
use Rattle.process_laws.proofs.Fitting.{fits-built}

-- known work is known under each cap
pub capped-known : {A : Type 0} (cap : ℕ) (o : Outcome A) → IsSure o → (w : Capped A) × (capped cap o ≡ Some w)
capped-known {A} cap o h = go (ltb cap o.price) o.answer h
  where
    go : (b : Bool) (a : Answer A) → IsKnownWith IsAnything a → (w : Capped A) × (cond b (Some over) (option_map within (known a o)) ≡ Some w)
    go true a h = (over, refl)
    go false (gives x) h = (within o, refl)
    go false (fails f) h = (within o, refl)
    go false unknown h = absurd h

pub closed-good : (p : Prices) (t : Tree) → IsClosed t → EndsWell p a_term t
closed-good p t h = built-good p (weight t) a_term t (fits-built (IsEndingLeaf p) (weight t) term a_term [] t tt (omega arith) h)

pub each_process_unfolds : EachProcessUnfolds
each_process_unfolds p cap t s h =
    let k = ends-term p t (closed-good p t h) s in
    let w = capped-known cap (unfold_in p k.0 t s) k.1 in
    (w.0, (k.0, w.1), λ v u. one_unfolding p cap t s w.0 v (k.0, w.1) u)
