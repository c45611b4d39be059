use Rattle.std.proofs.Common.{◌++◌, sym, ap, ◌∙◌}
use Rattle.std.proofs.lemmas.List.Elements.{All-append}
use Rattle.calculus.specs.Shape.{many, only}
use Rattle.calculus.specs.Tree.{set}
use Rattle.value_ops.specs.Answers.{IsOperand}
use Rattle.coll_ops.proofs.Members.{all-each, set-once, set-ordered}
use Rattle.coll_ops.proofs.sets.union.Goals as goal

pub value-requires : goal.value-requires
value-requires c = λ h. set-ordered (c.args.left.now ++ c.args.right.now) c.merged-members.result.items ((c.merged-members.ensures h).1 c.requires.0 c.requires.1)

pub returns : goal.returns
returns c = λ h.
    let v = c.value.ensures h in
    let e = c.merged-members.ensures v.0 in
    let both = c.args.left.now ++ c.args.right.now in
    let k = all-each IsOperand both (All-append IsOperand c.args.left.now c.args.right.now c.requires.0.keys c.requires.1.keys) in
    v.1 ∙ ap (λ l. only (many set l)) (e.1 c.requires.0 c.requires.1) ∙ sym (set-once both k)
