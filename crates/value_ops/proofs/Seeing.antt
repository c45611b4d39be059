-- What values are seen as, and what operators and methods make of values of other kinds.
use Rattle.std.proofs.Common.{◌≡◌, List, [], ◌∷◌, length, Option, Some, Result, Ok, Bool, not, ℤ, refl, sym, subst}
use Rattle.calculus.specs.Tree.{Tree}
use Rattle.calculus.specs.Congruence.{congruent}
use Rattle.calculus.specs.declared.fault.FaultKind.TheVariants as fault
use Rattle.calculus.specs.declared.plain.BinaryOp.{BinaryOp}
use Rattle.calculus.specs.declared.plain.BinaryOp.TheVariants as op
use Rattle.calculus.specs.declared.plain.UnaryOp.{UnaryOp}
use Rattle.calculus.specs.declared.plain.UnaryOp.TheVariants as unary_op
use Rattle.calculus.specs.declared.plain.Ground.{Ground}
use Rattle.calculus.specs.declared.plain.Ground.TheVariants as ground
use Rattle.value_ops.specs.declared.stop.OpStop.{OpStop}
use Rattle.calculus.specs.Outcome.{Answer, gives, fails}
use Rattle.calculus.specs.Operators.{Seen, an_int, seen, on_kind, on_kinds, binary_answer}
use Rattle.calculus.specs.Methods.{methods, among_methods}
use Rattle.rho_term.specs.Parts.{term_tree}
use Rattle.rho_term.specs.declared.term.Part.{Part}
use Rattle.value_ops.specs.Answers.{AnswersGround, AreOperands, IsOperand, IsEquality, IsNoCollection, IsNoGround, int_seen}

-- a process of no part, or of several, is no ground value
pub other_parts : (ps : List Part) → (length ps ≡ 1 → ⊥) → IsNoGround (seen (term_tree ps))
other_parts [] h = tt
other_parts (p ∷ []) h = absurd (h refl)
other_parts (p ∷ q ∷ ps) h = tt

pub int_is : (v : Seen) (z : ℤ) → int_seen v ≡ Some z → v ≡ an_int z
int_is (an_int y) z h = cc
int_is _ z h = cc

-- `==`
pub eq_answer : (o : BinaryOp) (t u : Tree) (v : Result Ground OpStop) (b : Bool) → o ≡ op.Eq → v ≡ Ok (ground.Bool b) → (IsOperand t → IsOperand u → b ≡ congruent t u) → (IsEquality o → AreOperands t u) → AnswersGround (binary_answer o t u) v
unfolding binary_answer
eq_answer o t u v b p q e h =
    let k = h (subst IsEquality (sym p) tt) in
    rw (p, q) (rw (e k.0 k.1) refl)

-- `!=`
pub ne_answer : (o : BinaryOp) (t u : Tree) (v : Result Ground OpStop) (b : Bool) → o ≡ op.Ne → v ≡ Ok (ground.Bool (not b)) → (IsOperand t → IsOperand u → b ≡ congruent t u) → (IsEquality o → AreOperands t u) → AnswersGround (binary_answer o t u) v
unfolding binary_answer
ne_answer o t u v b p q e h =
    let k = h (subst IsEquality (sym p) tt) in
    rw (p, q) (rw (e k.0 k.1) refl)

-- the other operators
kinds_answer : (o : BinaryOp) (t u : Tree) → (o ≡ op.Eq → ⊥) → (o ≡ op.Ne → ⊥) → binary_answer o t u ≡ on_kinds o (seen t) (seen u)
unfolding binary_answer
kinds_answer op.Eq t u h k = absurd (h refl)
kinds_answer op.Ne t u h k = absurd (k refl)
kinds_answer _ t u h k = refl

pub other_answer : (o : BinaryOp) (t u : Tree) (v w : Result Ground OpStop) → (o ≡ op.Eq → ⊥) → (o ≡ op.Ne → ⊥) → v ≡ w → AnswersGround (on_kinds o (seen t) (seen u)) w → AnswersGround (binary_answer o t u) v
other_answer o t u v w h k q a =
    let P : Answer Tree → Result Ground OpStop → Type 0 = λ x y. AnswersGround x y in
    subst (λ x. P x v) (sym (kinds_answer o t u h k)) (subst (P (on_kinds o (seen t) (seen u))) (sym q) a)
