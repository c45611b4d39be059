use Rattle.std.proofs.Common.{ap, ◌∙◌}
use Rattle.calculus.specs.Methods.{as_tuple}
use Rattle.calculus.specs.Operators.{of_list}
use Rattle.rho_term.specs.Parts.{pair_tree}
use Rattle.coll_ops.proofs.Members.{map-tuples}
use Rattle.coll_ops.proofs.Steps.{made-end, made-step}
use Rattle.coll_ops.proofs.maps.to_list.Goals as goal

pub loop-pair-preserved : goal.loop-pair-preserved
loop-pair-preserved c = λ h.
    let k = c.add.ensures h in
    let m = c.tuple_of-tuple.ensures k.0 in
    made-step (λ p. as_tuple (pair_tree p)) c.loop-pair.tuples.items c.add.new.items.items c.args.pairs.now c.loop-pair.pair-index c.tuple_of-tuple.result c.pair-item.result c.loop-pair-test.true c.pair-item.is m.1 k.1 (c.loop-pair.invariant m.0)

pub returns : goal.returns
returns c = λ h.
    let v = c.value.ensures h in
    let e = made-end (λ p. as_tuple (pair_tree p)) c.loop-pair.tuples.items c.args.pairs.now c.loop-pair.pair-index c.loop-pair-test.false (c.loop-pair.invariant v.0) in
    v.1 ∙ ap of_list (e ∙ map-tuples c.args.pairs.now)
