use Rattle.std.proofs.Common.{sym, ◌∙◌, refl, inl, inr, arith}
use Rattle.code_faults.proofs.Kids.{no_false}
use Rattle.code_faults.proofs.LeafRefusals.{short-denied}
use Rattle.code_faults.proofs.TextRefusals.{not-begun}
use Rattle.code_fields.proofs.fields.cut_text.Goals as goal

pub returns-then-begins_text-clause-refuses : goal.returns-then-begins_text-clause-refuses
returns-then-begins_text-clause-refuses c = λ x f w. short-denied c.args.whole c.args.bytes.now x (omega (arith, w))

pub returns-then-begins_text-clause-begun : goal.returns-then-begins_text-clause-begun
returns-then-begins_text-clause-begun c = inl (c.begins_text.ensures.only c.if-begins_text.true, refl)

pub returns-else-begins_text-clause-refuses : goal.returns-else-begins_text-clause-refuses
returns-else-begins_text-clause-refuses c = λ x f w. not-begun c.args.bytes.now x c.args.len (omega arith) w f (λ b. no_false (sym (c.begins_text.ensures.all b) ∙ c.if-begins_text.false))

pub returns-else-begins_text-clause-begun : goal.returns-else-begins_text-clause-begun
returns-else-begins_text-clause-begun c = inr (refl, λ b. no_false (sym (c.begins_text.ensures.all b) ∙ c.if-begins_text.false))
