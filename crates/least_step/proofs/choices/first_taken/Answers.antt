use Rattle.std.proofs.Common.{sym, ◌∙◌}
use Rattle.row_search.specs.Choices.{takes}
use Rattle.least_step.proofs.Steps.{is-none, none-taken, not-taken, taken-here}
use Rattle.least_step.proofs.choices.first_taken.Goals as goal

pub returns-then-branch : goal.returns-then-branch
returns-then-branch c =
    λ a. taken-here c.args.rows.now c.loop-row.row-index c.row-item.result c.loop-row-test.true c.row-item.is c.args.bind.now c.id.result a c.loop-row.invariant (sym c.in_ok-does_take.ensures ∙ c.if-branch.true) c.id.ensures

pub loop-row-preserved : goal.loop-row-preserved
loop-row-preserved c =
    not-taken c.args.rows.now c.loop-row.row-index c.row-item.result c.loop-row-test.true c.row-item.is c.args.bind.now
    (is-none (takes c.args.bind.now c.row-item.result.now) c.in_ok-does_take.field-0 c.in_ok-does_take.ensures c.if-branch.false) c.loop-row.invariant

pub returns : goal.returns
returns c = λ a r k. none-taken c.args.rows.now c.loop-row.row-index c.args.bind.now c.loop-row-test.false c.loop-row.invariant r k
