-- Congruent names among others.
use Rattle.std.proofs.Common.{◌≡◌, ◌<◌, ℕ, suc, ◌+◌, Bool, ◌||◌, List, [], ◌∷◌, length, get_or, drop, sym, ap, ◌∙◌, drop-cons, add-one}
use Rattle.std.specs.Ordering.{is_eq}
use Rattle.std.specs.declared.cmp.Ordering.{Ordering}
use Rattle.calculus.specs.Tree.{Tree}
use Rattle.calculus.specs.Congruence.{congruent}
use Rattle.calculus.specs.Operators.{is_among}
use Rattle.calculus.specs.Unfolding.{has_twins}
use Rattle.term_order.specs.Orders.{OrdersCodes}
use Rattle.value_ops.specs.Answers.{IsOperand}
use Rattle.value_ops.proofs.SameCodes.{equal_where_congruent}

-- the order of two operands tells whether they are congruent
pub equal-congruent : (t u : Tree) (o : Ordering) → OrdersCodes t u o → IsOperand t → IsOperand u → is_eq o ≡ congruent t u
equal-congruent t u o h a b = equal_where_congruent t u o a b (h [] [] a.closed b.closed a.short b.short)

pub drop-next : {X : Type 0} (xs : List X) (i : ℕ) (x : X) → i < length xs → x ≡ get_or xs i x → drop i xs ≡ x ∷ drop (i + 1) xs
drop-next xs i x l e = drop-cons xs i x l ∙ (ap (λ y. y ∷ drop (suc i) xs) (sym e) ∙ ap (λ k. x ∷ drop k xs) (sym (add-one i)))

-- the next one is congruent or not, and the rest is left
pub among-next : (t : Tree) (us : List Tree) (i : ℕ) (u : Tree) (b : Bool) → i < length us → u ≡ get_or us i u → b ≡ congruent t u → is_among t (drop i us) ≡ (b || is_among t (drop (i + 1) us))
among-next t us i u b l e c = ap (is_among t) (drop-next us i u l e) ∙ ap (λ x. x || is_among t (drop (i + 1) us)) (sym c)

pub twins-next : (ts : List Tree) (i : ℕ) (t : Tree) (b : Bool) → i < length ts → t ≡ get_or ts i t → b ≡ is_among t (drop (i + 1) ts) → has_twins (drop i ts) ≡ (b || has_twins (drop (i + 1) ts))
twins-next ts i t b l e c = ap has_twins (drop-next ts i t l e) ∙ ap (λ x. x || has_twins (drop (i + 1) ts)) (sym c)
