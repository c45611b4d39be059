use Rattle.std.proofs.Common.{◌++◌, ap, ◌∙◌}
use Rattle.calculus.specs.Operators.{of_list}
use Rattle.coll_ops.proofs.lists.append.Goals as goal

pub returns : goal.returns
returns c = λ h.
    let v = c.value.ensures h in
    let b = c.add_copies-2.ensures v.0 in
    let a = c.add_copies.ensures b.0 in
    v.1 ∙ ap of_list (b.1 ∙ ap (λ l. l ++ c.args.right.now) (a.1 ∙ ap (λ l. l ++ c.args.left.now) c.new-members.ensures.items))
