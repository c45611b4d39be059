use Rattle.std.proofs.Common.{ap, map, ◌∙◌}
use Rattle.rho_term.specs.Parts.{part_tree}
use Rattle.code_order.specs.Made.{reordered}
use Rattle.code_order.proofs.Turns.{all-taken, put-mapped}
use Rattle.code_order.proofs.make.with_orders.Goals as goal

pub loop-part-preserved : goal.loop-part-preserved
loop-part-preserved c =
    put-mapped part_tree (λ p. reordered (part_tree p)) c.loop-part.ordered.items c.push.new.self.items c.loop-part.yielded c.in_ok-with_order.field-0 c.in-Some.part
    c.in_ok-push.ensures.items c.in_ok-with_order.ensures c.loop-part.invariant

pub returns : goal.returns
returns c =
    let gives = c.into_iter-part-iterator.ensures.into_iter_gives in
    c.loop-part.invariant ∙ ap (map (λ p. reordered (part_tree p))) (all-taken c.args.parts c.into_iter-part-iterator.result c.loop-part.part-iterator c.next.new.self gives.0 gives.1
    c.loop-part.yielded c.loop-part.yielded_by c.next.result c.in-None.is c.next.ensures.steps)
