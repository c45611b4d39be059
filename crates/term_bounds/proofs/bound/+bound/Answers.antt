use Rattle.std.proofs.Common.{arith, ap, map, ◌≤◌}
use Rattle.calculus.specs.Tree.{weight, weights, trees}
use Rattle.rho_term.specs.Parts.{part_tree, pair_tree}
use Rattle.rho_term.proofs.Trees.{weight-at, tree-at}
use Rattle.term_bounds.proofs.bound.+bound.Goals as goal

pub term_bound-part_bound-requires : goal.term_bound-part_bound-requires
term_bound-part_bound-requires t c =
    let w : weight (part_tree c.part-item.result) ≤ weights (trees (map part_tree c.parts-parts.result.now)) = rw c.part-item.is (weight-at part_tree _ _ _ c.loop-part-test.true) in
    (omega (arith, w, ap weight c.parts-parts.ensures.parts), tt)

pub terms_bound-term_bound-requires : goal.terms_bound-term_bound-requires
terms_bound-term_bound-requires t c =
    let w : weight c.term-item.result ≤ weights (trees c.deref-term-items.result.now) = rw c.term-item.is (tree-at _ _ _ c.loop-term-test.true) in
    (omega (arith, w, ap (λ xs. weights (trees xs)) c.deref-term-items.ensures.value), tt)

pub pairs_bound-term_bound-requires : goal.pairs_bound-term_bound-requires
pairs_bound-term_bound-requires t c =
    let w : weight (pair_tree c.pair-item.result) ≤ weights (trees (map pair_tree c.deref-pair-items.result.now)) = rw c.pair-item.is (weight-at pair_tree _ _ _ c.loop-pair-test.true) in
    (omega (arith, w, ap (λ xs. weights (trees (map pair_tree xs))) c.deref-pair-items.ensures.value), tt)

pub pairs_bound-term_bound-requires-in-loop-pair : goal.pairs_bound-term_bound-requires-in-loop-pair
pairs_bound-term_bound-requires-in-loop-pair t c =
    let w : weight (pair_tree c.pair-item.result) ≤ weights (trees (map pair_tree c.deref-pair-items.result.now)) = rw c.pair-item.is (weight-at pair_tree _ _ _ c.loop-pair-test.true) in
    (omega (arith, w, ap (λ xs. weights (trees (map pair_tree xs))) c.deref-pair-items.ensures.value), tt)
