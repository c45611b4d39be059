use Rattle.std.proofs.Common.{arith}
use Rattle.printed_leaves.proofs.Singles.{name-others, sign_written}
use Rattle.printed_leaves.proofs.page.Page.name.Goals as goal

pub returns-in-empty : goal.returns-in-empty
returns-in-empty c = λ h.
    let k = c.sign.ensures.text h in
    (k.0, sign_written c.sign.result c.args.term.now c.args.depth _ _ c.sign.ensures.more k.1 (name-others c.parts.result.now c.args.term.now c.parts.ensures.parts (λ z. omega arith)))

pub returns-in-len2-up : goal.returns-in-len2-up
returns-in-len2-up c = λ h.
    let k = c.sign-in-len2-up.ensures.text h in
    (k.0, sign_written c.sign-in-len2-up.result c.args.term.now c.args.depth _ _ c.sign-in-len2-up.ensures.more k.1 (name-others c.parts.result.now c.args.term.now c.parts.ensures.parts (λ z. omega arith)))
