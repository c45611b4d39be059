use Rattle.std.proofs.Common.{[], ◌∷◌, ◌++◌, ap, ◌∙◌}
use Rattle.code_order.proofs.Turns.{all-taken}
use Rattle.code_order.proofs.compared.unwrapped.Goals as goal

pub loop-thing-preserved : goal.loop-thing-preserved
loop-thing-preserved g c =
    c.in_ok-push.ensures.items ∙ ap (λ xs. xs ++ c.thing.inside.item ∷ []) c.loop-thing.invariant ∙ ap (λ x. c.loop-thing.yielded ++ x ∷ []) c.thing.view_is

pub returns : goal.returns
returns g c =
    let gives = c.into_iter-thing-iterator.ensures.into_iter_gives in
    c.loop-thing.invariant ∙ all-taken c.args.suited c.into_iter-thing-iterator.result c.loop-thing.thing-iterator c.next.new.self gives.0 gives.1
    c.loop-thing.yielded c.loop-thing.yielded_by c.next.result c.in-None.is c.next.ensures.steps
