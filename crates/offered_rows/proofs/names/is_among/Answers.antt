use Rattle.std.proofs.Common.{◌||◌, ◌+◌, drop, sym, ap, ◌∙◌, subst}
use Rattle.std.proofs.lemmas.List.Elements.{All-get_or}
use Rattle.calculus.specs.Operators.{is_among}
use Rattle.value_ops.specs.Answers.{IsOperand}
use Rattle.offered_rows.proofs.Twins.{equal-congruent, among-next}
use Rattle.offered_rows.proofs.names.is_among.Goals as goal

pub returns-then-is_eq : goal.returns-then-is_eq
returns-then-is_eq c =
    let t = c.args.name.now in let us = c.args.others.now in let i = c.loop-other.other-index in let u = c.other-item.result in
    let operand = subst IsOperand (sym c.other-item.is) (All-get_or IsOperand us i u c.loop-other-test.true c.requires.others) in
    let next = among-next t us i u c.is_eq.result c.loop-other-test.true c.other-item.is (c.is_eq.ensures ∙ equal-congruent t u c.cmp_terms.result c.cmp_terms.ensures c.requires.name operand) in
    sym (c.loop-other.invariant ∙ (next ∙ ap (λ b. b || is_among t (drop (i + 1) us)) c.if-is_eq.true))

pub loop-other-preserved : goal.loop-other-preserved
loop-other-preserved c =
    let t = c.args.name.now in let us = c.args.others.now in let i = c.loop-other.other-index in let u = c.other-item.result in
    let operand = subst IsOperand (sym c.other-item.is) (All-get_or IsOperand us i u c.loop-other-test.true c.requires.others) in
    let next = among-next t us i u c.is_eq.result c.loop-other-test.true c.other-item.is (c.is_eq.ensures ∙ equal-congruent t u c.cmp_terms.result c.cmp_terms.ensures c.requires.name operand) in
    c.loop-other.invariant ∙ (next ∙ ap (λ b. b || is_among t (drop (i + 1) us)) c.if-is_eq.false)
