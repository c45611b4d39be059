use Rattle.std.proofs.Common.{sym, ap, ◌∙◌}
use Rattle.calculus.specs.Operators.{of_list}
use Rattle.calculus.specs.Outcome.{gives}
use Rattle.value_ops.proofs.Arguments.{slice_inside, slice_outside, part_from}
use Rattle.coll_ops.proofs.lists.slice_between.Goals as goal

pub returns-then-high-members : goal.returns-then-high-members
returns-then-high-members c = slice_outside of_list c.args.members.now c.args.low c.args.high c.if-high-members.true

pub returns : goal.returns
returns c = λ h.
    slice_inside of_list c.args.members.now c.args.low c.args.high c.requires c.if-high-members.false
    ∙ ap (λ l. gives (of_list l)) (sym (part_from c.args.members.now c.args.low c.args.high c.requires)) ∙ sym (ap gives (c.list_of.ensures h))
