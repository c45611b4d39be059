use Rattle.std.proofs.Common.{not, filter, sym, ap, ◌∙◌}
use Rattle.calculus.specs.Code.{code}
use Rattle.calculus.specs.Shape.{many, only}
use Rattle.calculus.specs.Tree.{set}
use Rattle.value_ops.specs.Answers.{IsOperand}
use Rattle.coll_ops.specs.Keys.{has_key}
use Rattle.coll_ops.proofs.Members.{all-each, set-ordered, set-without}
use Rattle.coll_ops.proofs.sets.difference.Goals as goal

pub value-requires : goal.value-requires
value-requires c = λ h.
    set-ordered (filter (λ t. not (has_key code (code t) c.args.right.now)) c.args.left.now) c.without-members.result.items ((c.without-members.ensures h).1 c.requires.0 c.requires.1)

pub returns : goal.returns
returns c = λ h.
    let v = c.value.ensures h in
    let e = c.without-members.ensures v.0 in
    let s = set-without c.args.right.now c.args.left.now (all-each IsOperand c.args.right.now c.requires.1.keys) (all-each IsOperand c.args.left.now c.requires.0.keys) in
    v.1 ∙ ap (λ l. only (many set l)) (e.1 c.requires.0 c.requires.1) ∙ sym s
