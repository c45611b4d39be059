use Rattle.std.proofs.Common.{sym, ◌∙◌, subst, arith, ⊎_elim}
use Rattle.code_faults.specs.Texts.{HasForm}
use Rattle.code_faults.specs.Blaming.{Wrong, InText}
use Rattle.code_faults.proofs.Exit.{exit}
use Rattle.code_faults.proofs.Kids.{no_false}
use Rattle.code_faults.proofs.TextRefusals.{text-refused, others-denied, form-utf8}
use Rattle.code_faults.proofs.Blaming.{none-told, not-canonical}
use Rattle.code_faults.proofs.BlamedLeaves.{number-text, unbegun-wrong, other-wrong, nameless-wrong}
use Rattle.code_faults.proofs.BegunMore.{text-begun, text-none_begun, number-text_begun}
use Rattle.code_faults.proofs.Places.{goes-on, goes-at, goes-short}
use Rattle.code_faults.proofs.Unnamed.{ill-formed}
use Rattle.code_fields.proofs.reader.Reader.text.Goals as goal

pub returns-then-self-len-clause-refuses : goal.returns-then-self-len-clause-refuses
returns-then-self-len-clause-refuses c = λ x f h. text-refused c.in_ok-len.field-0 _ x c.in_ok-len.ensures.is (omega arith) h
    (λ w. c.cut_text.ensures.refuses x f w)

pub returns-then-self-len-clause-begun : goal.returns-then-self-len-clause-begun
returns-then-self-len-clause-begun c = λ s. ⊎_elim
    (λ h. goes-short (text-begun c.args.kind c.in_ok-len.field-0 c.in_ok-len.ensures.is (omega arith) h.0) h.1)
    (λ h. goes-at _ (text-none_begun c.args.kind c.in_ok-len.field-0 c.in_ok-len.ensures.is (omega arith)) h.0 (omega arith))
    c.cut_text.ensures.begun

pub returns-in_err-len-clause-begun : goal.returns-in_err-len-clause-begun
returns-in_err-len-clause-begun c = exit _ _ _ c.from_residual.ensures.1 (λ s. goes-on (c.in_err-len.ensures.begun s (omega arith)) (λ z g. number-text_begun c.args.kind g))

pub returns-in_err-taken-clause-begun : goal.returns-in_err-taken-clause-begun
returns-in_err-taken-clause-begun c = exit _ _ _ c.from_residual-in_err-taken.ensures.1 (λ s. absurd (omega (arith, c.in_err-taken.ensures.ends)))

pub returns-in_err-taken-clause-refuses : goal.returns-in_err-taken-clause-refuses
returns-in_err-taken-clause-refuses c = exit _ _ _ c.from_residual-in_err-taken.ensures.1 (λ x f h. text-refused c.in_ok-len.field-0 _ x c.in_ok-len.ensures.is (omega arith) h (λ w. c.in_err-taken.ensures.refuses x w))

pub returns-then-not-is_text-clause-refuses : goal.returns-then-not-is_text-clause-refuses
returns-then-not-is_text-clause-refuses c = λ x f h. text-refused c.in_ok-len.field-0 _ x c.in_ok-len.ensures.is (omega arith) h
    (λ w. others-denied c.in_ok-taken.taken.now x _ c.in_ok-taken.ensures.is (omega (arith, w, c.in_ok-taken.ensures.long))
    (λ e. let k = c.is_text.ensures.all (subst (HasForm c.args.kind) (sym e) f) in no_false (sym k ∙ c.if-not-is_text.true)))

pub returns-in-Err-clause-refuses : goal.returns-in-Err-clause-refuses
returns-in-Err-clause-refuses c = λ x f h. text-refused c.in_ok-len.field-0 _ x c.in_ok-len.ensures.is (omega arith) h
    (λ w. others-denied c.in_ok-taken.taken.now x _ c.in_ok-taken.ensures.is (omega (arith, w, c.in_ok-taken.ensures.long))
    (λ e. c.in-Err.ensures.cases.0 (form-utf8 c.args.kind _ (subst (HasForm c.args.kind) (sym e) f))))

pub returns-in_err-len-clause-wrong : goal.returns-in_err-len-clause-wrong
returns-in_err-len-clause-wrong c = exit _ _ _ c.from_residual.ensures.1 (number-text c.args.kind c.in_err-len.ensures.wrong)

pub returns-then-self-len-clause-wrong : goal.returns-then-self-len-clause-wrong
returns-then-self-len-clause-wrong c = ⊎_elim
    (λ h. subst (λ e. Wrong (InText c.args.kind) e c.args.self.now.input.now) (sym h.1) (none-told _ tt))
    (λ h. subst (λ e. Wrong (InText c.args.kind) e c.args.self.now.input.now) (sym h.0)
    (not-canonical (unbegun-wrong c.args.kind _ c.in_ok-len.ensures.is (omega arith) c.place-at.ensures (omega arith) h.1)))
    c.cut_text.ensures.begun

pub returns-in_err-taken-clause-wrong : goal.returns-in_err-taken-clause-wrong
returns-in_err-taken-clause-wrong c = exit _ _ _ c.from_residual-in_err-taken.ensures.1 (none-told _ c.in_err-taken.ensures.tells)

pub returns-then-not-is_text-clause-wrong : goal.returns-then-not-is_text-clause-wrong
returns-then-not-is_text-clause-wrong c =
    let no : HasForm c.args.kind c.in_ok-taken.taken.now → ⊥ = λ f. no_false (sym (c.is_text.ensures.all f) ∙ c.if-not-is_text.true) in
    ⊎_elim
    (λ h. subst (λ e. Wrong (InText c.args.kind) e c.args.self.now.input.now) (sym h.1) (nameless-wrong c.args.kind _ _ c.in_ok-len.ensures.is (omega (arith, h.0)) c.in_ok-taken.ensures.is (omega (arith, c.in_ok-taken.ensures.long)) no c.place-length_at.ensures))
    (λ h. subst (λ e. Wrong (InText c.args.kind) e c.args.self.now.input.now) (sym h.1) (not-canonical (other-wrong c.args.kind _ c.in_ok-len.ensures.is (omega arith) c.place-at.ensures c.in_ok-taken.taken.now _ c.in_ok-taken.ensures.is (omega (arith, c.in_ok-taken.ensures.long)) no)))
    c.ill_formed.ensures

pub returns-in-Err-clause-wrong : goal.returns-in-Err-clause-wrong
returns-in-Err-clause-wrong c = not-canonical (other-wrong c.args.kind _ c.in_ok-len.ensures.is (omega arith) c.place-at.ensures c.in_ok-taken.taken.now _ c.in_ok-taken.ensures.is (omega (arith, c.in_ok-taken.ensures.long))
    (λ f. c.in-Err.ensures.cases.0 (form-utf8 c.args.kind _ f)))

pub returns-then-not-is_text-clause-begun : goal.returns-then-not-is_text-clause-begun
returns-then-not-is_text-clause-begun c = λ s. ill-formed c.args.kind c.in_ok-len.field-0 _ _ _ _ c.in_ok-len.ensures.is c.in_ok-taken.ensures.is c.in_ok-taken.ensures.long
    (λ f. no_false (sym (c.is_text.ensures.all f) ∙ c.if-not-is_text.true)) c.ill_formed.ensures c.place-length_at.ensures (omega arith)

pub returns-in-Err-clause-begun : goal.returns-in-Err-clause-begun
returns-in-Err-clause-begun c = λ s. absurd (c.in-Err.ensures.cases.0 (form-utf8 c.args.kind _ (c.is_text.ensures.only c.if-not-is_text.false)))
