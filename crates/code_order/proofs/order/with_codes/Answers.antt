use Rattle.std.proofs.Common.{ap, ◌∙◌}
use Rattle.code_order.specs.Made.{beside, keyed_by}
use Rattle.code_order.proofs.Turns.{all-at_turn, all-taken, put-mapped}
use Rattle.code_order.proofs.order.with_codes.Goals as goal

pub encoded-requires : goal.encoded-requires
encoded-requires g c =
    let gives = c.into_iter-item-iterator.ensures.into_iter_gives in
    all-at_turn c.args.items c.into_iter-item-iterator.result c.loop-item.item-iterator c.next.new.self gives.0 gives.1 c.loop-item.yielded c.loop-item.yielded_by c.next.result
    g.T.HasCode.is_ready c.in-Some.item c.in-Some.is c.next.ensures.steps c.requires

pub loop-item-preserved : goal.loop-item-preserved
loop-item-preserved g c =
    let k = g.T.HasCode.bytes in
    let x = c.in-Some.item in
    put-mapped beside (λ y. (k y, y)) c.loop-item.keyed.items c.push.new.self.items c.loop-item.yielded (c.in_ok-code.code, x) x c.in_ok-push.ensures.items (ap (λ b. (b, x)) c.in_ok-code.ensures) c.loop-item.invariant

pub returns : goal.returns
returns g c =
    let gives = c.into_iter-item-iterator.ensures.into_iter_gives in
    c.loop-item.invariant ∙ ap (keyed_by g.T.HasCode.bytes) (all-taken c.args.items c.into_iter-item-iterator.result c.loop-item.item-iterator c.next.new.self gives.0 gives.1
    c.loop-item.yielded c.loop-item.yielded_by c.next.result c.in-None.is c.next.ensures.steps)
