use Rattle.std.proofs.Common.{subst, sym, refl, ◌∙◌, rules}
use Rattle.std.specs.Prelude.{Contains}
use Rattle.code_faults.specs.Texts.{BeginsText}
use Rattle.code_faults.proofs.TextEnds.{uri-ends, word-only, word-all}
use Rattle.code_fields.proofs.text.begins_text.Goals as goal

pub returns-then-begins_utf8-clause-only : goal.returns-then-begins_utf8-clause-only
returns-then-begins_utf8-clause-only c = λ t.
    let none : Contains c.args.bytes.now 0x60 → ⊥ = search rules in
    subst (λ k. BeginsText k c.args.bytes.now c.args.len) (sym c.in-Uri.is) (uri-ends c.args.bytes.now c.args.len (c.if-begins_utf8.ensures.only refl) none)

pub returns-in-Word-clause-only : goal.returns-in-Word-clause-only
returns-in-Word-clause-only c = λ t. subst (λ k. BeginsText k c.args.bytes.now c.args.len) (sym c.in-Word.is) (word-only c.args.bytes.now c.args.len c.requires (sym c.begins_word.ensures ∙ t))

pub returns-in-Word-clause-all : goal.returns-in-Word-clause-all
returns-in-Word-clause-all c = λ h. c.begins_word.ensures ∙ word-all c.args.bytes.now c.args.len c.requires (subst (λ k. BeginsText k c.args.bytes.now c.args.len) c.in-Word.is h)
