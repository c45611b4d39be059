use Rattle.std.proofs.Common.{ap, map, refl, sym, subst, ◌≡◌, ◌∙◌}
use Rattle.calculus.specs.Shape.{held}
use Rattle.calculus.proofs.Placing.{listed-trees}
use Rattle.rho_term.specs.Normal.{IsNormal, IsOrdered}
use Rattle.rho_term.specs.Parts.{part_tree}
use Rattle.rho_term.proofs.Trees.{ordered-at}
use Rattle.code_order.proofs.Made.{push-ordered}
use Rattle.substitution.proofs.Made.{next-one, no-more, copies-more, copies-end}
use Rattle.substitution.proofs.variable.put_copies.Goals as goal

pub loop-part-preserved : goal.loop-part-preserved
loop-part-preserved c = λ h.
    let ps = c.parts-part-items.result.now in
    let k = c.add.ensures h in
    let m = c.copy-copy.ensures k.0 in
    let i = c.loop-part.invariant m.0 in
    let n = subst IsNormal c.parts-part-items.ensures.parts c.parts-part-items.ensures.normal in
    let o : IsOrdered (part_tree c.part-item.result) = rw c.part-item.is (ordered-at part_tree _ _ _ c.loop-part-test.true n.1) in
    let e = next-one ps ps c.loop-part.part-index c.part-item.result refl c.loop-part-test.true c.part-item.is in (
      i.0,
      (
        copies-more part_tree ps _ _ _ c.loop-part.part-index c.part-item.result c.copy-copy.result e k.1 m.1 i.1.0,
        λ a. push-ordered part_tree _ _ _ k.1 (i.1.1 a) (subst IsOrdered (sym m.1) o),
      ),
    )

pub returns : goal.returns
returns c = λ h.
    let ps = c.parts-part-items.result.now in
    let i = c.loop-part.invariant h in
    let e : held c.args.value.now ≡ map part_tree ps = ap held c.parts-part-items.ensures.parts ∙ listed-trees (map part_tree ps) in
    (i.0, (copies-end part_tree ps _ _ _ c.loop-part.part-index (no-more ps ps c.loop-part.part-index refl c.loop-part-test.false) e i.1.0, i.1.1))
