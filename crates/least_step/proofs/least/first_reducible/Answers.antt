use Rattle.std.proofs.Common.{map, ap, ◌∙◌}
use Rattle.least_step.specs.Orders.{referred}
use Rattle.least_step.proofs.Steps.{finally}
use Rattle.least_step.proofs.least.first_reducible.Goals as goal

pub returns : goal.returns
returns c =
    λ b made has apart unused.
    finally b made c.args.rows.now c.as_slice.result.now (c.as_slice.ensures.value ∙ c.in_ok-built_ins.ensures) (map referred c.in_ok-all.all.items) (map referred c.as_slice-2.result.now) (ap (map referred) c.as_slice-2.ensures.value)
    c.in_ok-all.ensures.all c.in_ok-all.ensures.ascending c.least_meeting.result c.least_meeting.ensures has apart unused
