use Rattle.std.proofs.Common.{arith, ap, map, ◌≤◌}
use Rattle.calculus.specs.Tree.{weight, weights, trees}
use Rattle.rho_term.specs.Parts.{pat_part_tree, pair_tree}
use Rattle.rho_term.proofs.Trees.{weight-at, tree-at}
use Rattle.term_bounds.proofs.bound.+pattern.Goals as goal

pub pat_bound-pat_part_bound-requires : goal.pat_bound-pat_part_bound-requires
pat_bound-pat_part_bound-requires t c =
    let w : weight (pat_part_tree c.part-item.result) ≤ weights (trees (map pat_part_tree c.parts-parts.result.now)) = rw c.part-item.is (weight-at pat_part_tree _ _ _ c.loop-part-test.true) in
    (omega (arith, w, ap weight c.parts-parts.ensures.parts), tt)

pub pats_bound-pat_bound-requires : goal.pats_bound-pat_bound-requires
pats_bound-pat_bound-requires t c =
    let w : weight c.pat-item.result ≤ weights (trees c.deref-pat-items.result.now) = rw c.pat-item.is (tree-at _ _ _ c.loop-pat-test.true) in
    (omega (arith, w, ap (λ xs. weights (trees xs)) c.deref-pat-items.ensures.value), tt)

pub pat_pairs_bound-pat_bound-requires : goal.pat_pairs_bound-pat_bound-requires
pat_pairs_bound-pat_bound-requires t c =
    let w : weight (pair_tree c.pair-item.result) ≤ weights (trees (map pair_tree c.deref-pair-items.result.now)) = rw c.pair-item.is (weight-at pair_tree _ _ _ c.loop-pair-test.true) in
    (omega (arith, w, ap (λ xs. weights (trees (map pair_tree xs))) c.deref-pair-items.ensures.value), tt)

pub pat_pairs_bound-pat_bound-requires-in-loop-pair : goal.pat_pairs_bound-pat_bound-requires-in-loop-pair
pat_pairs_bound-pat_bound-requires-in-loop-pair t c =
    let w : weight (pair_tree c.pair-item.result) ≤ weights (trees (map pair_tree c.deref-pair-items.result.now)) = rw c.pair-item.is (weight-at pair_tree _ _ _ c.loop-pair-test.true) in
    (omega (arith, w, ap (λ xs. weights (trees (map pair_tree xs))) c.deref-pair-items.ensures.value), tt)
