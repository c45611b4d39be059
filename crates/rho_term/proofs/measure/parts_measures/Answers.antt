use Rattle.std.proofs.Common.{refl}
use Rattle.calculus.specs.Form.{part, term}
use Rattle.calculus.specs.Tree.{par}
use Rattle.rho_term.specs.Parts.{part_tree}
use Rattle.rho_term.proofs.Measuring.{count-start, count-step, count-end, parts-step, parts-end}
use Rattle.rho_term.proofs.Turns.{turn-item, turn-within, turns-done}
use Rattle.rho_term.proofs.measure.parts_measures.Goals as goal

pub loop-part-init : goal.loop-part-init
loop-part-init c = (λ a n. n, count-start part part_tree _ _ c.leaf-total.ensures)

pub loop-part-preserved : goal.loop-part-preserved
loop-part-preserved c =
    let g = turn-item _ _ _ _ c.deref-part-items.ensures.value c.part-item.is in
    let i = turn-within _ _ _ c.deref-part-items.ensures.value c.loop-part-test.true in
    (parts-step part_tree _ _ _ i g c.part_measures.ensures.0 c.loop-part.invariant.0, count-step part part_tree _ _ _ _ _ _ i g c.part_measures.ensures.1 c.join-total.ensures c.loop-part.invariant.1)

pub returns : goal.returns
returns c =
    let i = turns-done _ _ _ c.deref-part-items.ensures.value c.loop-part-test.false in
    record {
      count = count-end term part par part_tree _ _ _ refl refl refl refl i c.loop-part.invariant.1;
      normal = parts-end part_tree _ _ i c.loop-part.invariant.0;
    }
