-- Processes with one code are congruent, and congruent ones have one code.
use Rattle.std.proofs.Common.{◌≡◌, ℕ, Bool, true, false, sym, ap, ◌∙◌, subst, ⊎_elim}
use Rattle.std.proofs.lemmas.Bool.{both_ways, cases_Bool, false_from_ne_true}
use Rattle.std.proofs.lemmas.Map.Text.{is_eq-slice_cmp}
use Rattle.std.specs.Ordering.{is_eq}
use Rattle.std.specs.Str.{bytes_eq}
use Rattle.std.specs.declared.cmp.Ordering.{Ordering}
use Rattle.calculus.specs.Tree.{Tree}
use Rattle.calculus.specs.Order.{byte_cmp}
use Rattle.calculus.specs.Code.{code}
use Rattle.calculus.specs.Congruence.{congruent}
use Rattle.calculus.proofs.Counting.{bytes_equal, bytes_self}
use Rattle.calculus.proofs.CodesAgree.{code_is_congruence}
use Rattle.value_ops.specs.Answers.{IsOperand}

codes_decide : (t u : Tree) → IsOperand t → IsOperand u → bytes_eq (code t) (code u) ≡ congruent t u
codes_decide t u a b =
    let law = code_is_congruence t u a.closed b.closed a.short b.short in
    ⊎_elim
    (λ (c : congruent t u ≡ true). subst (λ x. bytes_eq (code t) x ≡ true) (law.1 c) (bytes_self (code t)) ∙ sym c)
    (λ (c : congruent t u ≡ false). false_from_ne_true (bytes_eq (code t) (code u)) (λ e. both_ways (congruent t u) c (law.0 (bytes_equal (code t) (code u) e))) ∙ sym c)
    (cases_Bool (congruent t u))

-- the order of the codes of two processes tells whether they are congruent
pub equal_where_congruent : (t u : Tree) (o : Ordering) → IsOperand t → IsOperand u → o ≡ byte_cmp (code t) (code u) → is_eq o ≡ congruent t u
equal_where_congruent t u o a b e = ap is_eq e ∙ (is_eq-slice_cmp (code t) (code u) ∙ codes_decide t u a b)
