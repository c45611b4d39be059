use Rattle.std.proofs.Common.{[], ◌∷◌, ◌++◌, ap, ◌∙◌}
use Rattle.code_order.proofs.Turns.{all-at_turn, all-taken}
use Rattle.code_order.proofs.compared.wrapped.Goals as goal

pub invariant_of-push : goal.invariant_of-push
invariant_of-push g c =
    let gives = c.into_iter-item-iterator.ensures.into_iter_gives in
    all-at_turn c.args.items c.into_iter-item-iterator.result c.loop-item.item-iterator c.next.new.self gives.0 gives.1 c.loop-item.yielded c.loop-item.yielded_by c.next.result
    g.T.HasCode.is_suited c.in-Some.item c.in-Some.is c.next.ensures.steps c.requires

pub loop-item-preserved : goal.loop-item-preserved
loop-item-preserved g c = c.in_ok-push.ensures.items ∙ ap (λ xs. xs ++ c.in-Some.item ∷ []) c.loop-item.invariant

pub returns : goal.returns
returns g c =
    let gives = c.into_iter-item-iterator.ensures.into_iter_gives in
    c.loop-item.invariant ∙ all-taken c.args.items c.into_iter-item-iterator.result c.loop-item.item-iterator c.next.new.self gives.0 gives.1
    c.loop-item.yielded c.loop-item.yielded_by c.next.result c.in-None.is c.next.ensures.steps
