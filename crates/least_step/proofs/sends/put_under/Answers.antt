use Rattle.std.proofs.Common.{map, ap, sym, ◌∙◌}
use Rattle.least_step.specs.Orders.{referred}
use Rattle.least_step.proofs.Filing.{none-put, put-back}
use Rattle.least_step.proofs.Steps.{one-more}
use Rattle.least_step.proofs.sends.put_under.Goals as goal

pub returns-in_ok-insert-in-Some : goal.returns-in_ok-insert-in-Some
returns-in_ok-insert-in-Some c =
    let old = c.in-Some.rows in
    put-back c.args.code c.as_slice.result.now c.as_slice.ensures.value c.args.row.now c.args.sends.now.entries c.remove.new.self.entries c.insert.new.self.entries old c.push.new.self
    (sym c.remove.ensures.value ∙ c.in-Some.is) (ap (map referred) c.in_ok-push-in-Some.ensures.items ∙ one-more old.items c.args.row)
    c.remove.ensures.updates.0 c.in_ok-insert-in-Some.ensures.updates.0

pub returns-in-None : goal.returns-in-None
returns-in-None c = none-put c.args.code c.as_slice.result.now c.as_slice.ensures.value c.args.row.now c.args.sends.now.entries c.remove.new.self.entries (sym c.remove.ensures.value ∙ c.in-None.is) c.remove.ensures.updates.0
