use Rattle.std.proofs.Common.{refl}
use Rattle.calculus.specs.Form.{name_part, name_pat, pat, pat_part}
use Rattle.calculus.specs.Tree.{pattern}
use Rattle.rho_term.specs.Parts.{pat_part_tree}
use Rattle.rho_term.proofs.Measuring.{count-start, count-step, count-end, faults-start, faults-step, faults-end, parts-step, parts-end}
use Rattle.rho_term.proofs.Turns.{turn-item, turn-within, turns-done}
use Rattle.rho_term.proofs.measure.pat_parts_measures.Goals as goal

pub name_part_faults-requires : goal.name_part_faults-requires
name_part_faults-requires c = c.pat_part_measures-found.ensures.1.1

pub loop-part-init : goal.loop-part-init
loop-part-init c = (λ a n. n, faults-start name_part pat_part_tree _, count-start pat_part pat_part_tree _ _ c.leaf-total.ensures)

pub loop-part-preserved : goal.loop-part-preserved
loop-part-preserved c =
    let g = turn-item _ _ _ _ c.deref-part-items.ensures.value c.part-item.is in
    let i = turn-within _ _ _ c.deref-part-items.ensures.value c.loop-part-test.true in (
      parts-step pat_part_tree _ _ _ i g c.pat_part_measures-found.ensures.0 c.loop-part.invariant.0,
      faults-step name_part pat_part_tree _ _ _ _ _ _ i g c.name_part_faults.ensures c.greater-names.ensures c.loop-part.invariant.1,
      count-step pat_part pat_part_tree _ _ _ _ _ _ i g c.pat_part_measures-found.ensures.1 c.join-total.ensures c.loop-part.invariant.2,
    )

pub returns : goal.returns
returns c =
    let i = turns-done _ _ _ c.deref-part-items.ensures.value c.loop-part-test.false in
    record {
      count = count-end pat pat_part pattern pat_part_tree _ _ _ refl refl refl refl i c.loop-part.invariant.2;
      names = faults-end name_pat name_part pattern pat_part_tree _ _ _ refl refl i c.loop-part.invariant.1;
      normal = parts-end pat_part_tree _ _ i c.loop-part.invariant.0;
    }
