use Rattle.std.proofs.Common.{◌≡◌, sym, ◌∙◌, arith, subst, ◌+◌, take, suc}
use Rattle.radix_root.specs.Nodes.{NoneHas}
use Rattle.radix_root.proofs.Places.{place-here, none-more}
use Rattle.radix_root.proofs.node.place_of.Goals as goal

pub returns-then-half-clause-some : goal.returns-then-half-clause-some
returns-then-half-clause-some c =
    place-here c.args.half c.args.children.now c.loop-place.place c.index-children-place.result c.loop-place.invariant c.loop-place-test.true c.index-children-place.is
    (sym c.half.ensures ∙ c.if-half.true)

pub loop-place-preserved : goal.loop-place-preserved
loop-place-preserved c =
    let next : suc c.loop-place.place ≡ c.loop-place.place + 1 = omega arith in
    subst (λ i. NoneHas c.args.half (take i c.args.children.now)) next
    (none-more c.args.half c.args.children.now c.loop-place.place c.index-children-place.result c.loop-place.invariant c.loop-place-test.true c.index-children-place.is
    (λ e. c.if-half.false (c.half.ensures ∙ e)))
