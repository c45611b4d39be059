use Rattle.std.proofs.Common.{sym, ap, ◌∙◌}
use Rattle.calculus.specs.Operators.{seen}
use Rattle.calculus.specs.Outcome.{gives}
use Rattle.value_ops.proofs.Arguments.{index_inside, index_outside}
use Rattle.coll_ops.proofs.lists.nth.Goals as goal

pub returns-then-index-members : goal.returns-then-index-members
returns-then-index-members c = index_outside (λ t. t) c.args.members.now (seen c.args.index.now) c.in_ok-index.index (sym c.in_ok-index.ensures) c.if-index-members.true

pub returns : goal.returns
returns c = λ h.
    index_inside (λ t. t) c.args.members.now (seen c.args.index.now) c.in_ok-index.index c.index-members-index.result (sym c.in_ok-index.ensures) c.if-index-members.false c.index-members-index.is
    ∙ sym (ap gives (c.copy.ensures h).1)
