use Rattle.std.proofs.Common.{◌++◌, sym, ap, ◌∙◌, subst, All}
use Rattle.calculus.specs.Operators.{of_set}
use Rattle.value_ops.specs.Answers.{IsOperand}
use Rattle.coll_ops.proofs.lists.to_set.Goals as goal

pub distinct-requires : goal.distinct-requires
distinct-requires c = λ h. subst (All IsOperand) (sym ((c.add_copies.ensures h).1 ∙ ap (λ l. l ++ c.args.members.now) c.new-copied.ensures.items)) c.requires

pub returns : goal.returns
returns c = λ h.
    let d = c.distinct.ensures h in
    d.1 ∙ ap of_set ((c.add_copies.ensures d.0).1 ∙ ap (λ l. l ++ c.args.members.now) c.new-copied.ensures.items)
