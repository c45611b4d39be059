-- What comparing two operands says of their codes.
use Rattle.std.proofs.Common.{◌≡◌, ℕ, ◌<◌, Bool, List, [], length, get_or, sym, ap, ◌∙◌, subst, All}
use Rattle.std.specs.Ordering.{is_ge, is_eq}
use Rattle.std.specs.declared.cmp.Ordering.{Ordering}
use Rattle.calculus.specs.Tree.{Tree}
use Rattle.calculus.specs.Order.{up_to, byte_cmp}
use Rattle.calculus.specs.Code.{code}
use Rattle.term_order.specs.Orders.{OrdersCodes}
use Rattle.value_ops.specs.Answers.{IsOperand}
use Rattle.coll_ops.specs.Keys.{same}
use Rattle.coll_ops.proofs.Finding.{ge_is}

compared : (t k u : Tree) (o : Ordering) → t ≡ k → OrdersCodes t u o → IsOperand k → IsOperand u → o ≡ byte_cmp (code k) (code u)
compared t k u o e f h j = subst (λ x. OrdersCodes x u o) e f [] [] h.closed j.closed h.short j.short

-- whether the one is not less
pub not_less : (t k u : Tree) (o : Ordering) (b : Bool) → t ≡ k → OrdersCodes t u o → b ≡ is_ge o → IsOperand k → IsOperand u → b ≡ up_to (code u) (code k)
not_less t k u o b e f g h j = g ∙ ge_is (code k) (code u) o (compared t k u o e f h j)

-- whether they are one
pub is_one : (t k u : Tree) (o : Ordering) (b : Bool) → t ≡ k → OrdersCodes t u o → b ≡ is_eq o → IsOperand k → IsOperand u → b ≡ same (code k) (code u)
is_one t k u o b e f g h j = g ∙ ap is_eq (compared t k u o e f h j)

-- what holds of all holds of the one at a place
pub read : {X : Type 0} (P : X → Type 0) (xs : List X) (i : ℕ) (x : X) → i < length xs → x ≡ get_or xs i x → All P xs → P x
read P xs i x h g a = subst P (sym g) (a i x h)
