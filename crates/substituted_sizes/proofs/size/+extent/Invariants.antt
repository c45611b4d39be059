use Rattle.std.proofs.Common.{◌≡◌, ◌≤◌, ◌<◌, ◌^◌, ℕ, max, ◌*◌, ◌+◌, map, drop}
use Rattle.calculus.specs.Tree.{trees, weight, weights}
use Rattle.rho_term.specs.Measures.{in_u32}
use Rattle.rho_term.specs.Parts.{part_tree, pat_part_tree, pair_tree, bind_tree, case_tree}
use Rattle.rho_term.specs.Sizes.{in_u64}
use Rattle.substituted_sizes.specs.Extent.{filled_heights, filled_sizes}
use Rattle.substituted_sizes.proofs.size.+extent.Given as goal

abbrev pub decreases-term_extent : goal.decreases-term_extent
decreases-term_extent l = 4 * weight l.term.now

abbrev pub decreases-add_part : goal.decreases-add_part
decreases-add_part l = 4 * weight (part_tree l.part.now) + 1

abbrev pub decreases-form_extent : goal.decreases-form_extent
decreases-form_extent l = 4 * weight (part_tree l.part.now)

abbrev pub decreases-pat_extent : goal.decreases-pat_extent
decreases-pat_extent l = 4 * weight l.pat.now

abbrev pub decreases-add_pat_part : goal.decreases-add_pat_part
decreases-add_pat_part l = 4 * weight (pat_part_tree l.part.now) + 3

abbrev pub decreases-pat_form_extent : goal.decreases-pat_form_extent
decreases-pat_form_extent l = 4 * weight (pat_part_tree l.part.now) + 2

abbrev pub invariant-term_extent-loop-part : goal.invariant-term_extent-loop-part
invariant-term_extent-loop-part l = record {
  fits : l.total.length < 2 ^ 64;
  low : l.total.height < 2 ^ 32;
  least : 4 ≤ l.total.length;
  height : (d : ℕ) → in_u64 d ≡ l.depth → max l.total.height (in_u32 (filled_heights l.values d (map part_tree (drop l.part-index l.parts)))) ≡ in_u32 (filled_heights l.values d (map part_tree l.parts));
  length : (d : ℕ) → in_u64 d ≡ l.depth → in_u64 (l.total.length + filled_sizes l.values d (map part_tree (drop l.part-index l.parts))) ≡ in_u64 (4 + filled_sizes l.values d (map part_tree l.parts));
}

abbrev pub invariant-pat_extent-loop-part : goal.invariant-pat_extent-loop-part
invariant-pat_extent-loop-part l = record {
  fits : l.total.length < 2 ^ 64;
  low : l.total.height < 2 ^ 32;
  least : 4 ≤ l.total.length;
  height : (d : ℕ) → in_u64 d ≡ l.depth → max l.total.height (in_u32 (filled_heights l.values d (map pat_part_tree (drop l.part-index l.parts)))) ≡ in_u32 (filled_heights l.values d (map pat_part_tree l.parts));
  length : (d : ℕ) → in_u64 d ≡ l.depth → in_u64 (l.total.length + filled_sizes l.values d (map pat_part_tree (drop l.part-index l.parts))) ≡ in_u64 (4 + filled_sizes l.values d (map pat_part_tree l.parts));
}

abbrev pub invariant-terms_extent-loop-term : goal.invariant-terms_extent-loop-term
invariant-terms_extent-loop-term l = record {
  fits : l.total.length < 2 ^ 64;
  low : l.total.height < 2 ^ 32;
  least : 0 ≤ l.total.length;
  height : (d : ℕ) → in_u64 d ≡ l.depth → max l.total.height (in_u32 (filled_heights l.values d (drop l.term-index l.terms.items))) ≡ in_u32 (filled_heights l.values d l.terms.items);
  length : (d : ℕ) → in_u64 d ≡ l.depth → in_u64 (l.total.length + filled_sizes l.values d (drop l.term-index l.terms.items)) ≡ in_u64 (0 + filled_sizes l.values d l.terms.items);
}

abbrev pub decreases-terms_extent : goal.decreases-terms_extent
decreases-terms_extent l = 4 * weights (trees l.terms.now.items) + 1

abbrev pub invariant-pairs_extent-loop-pair : goal.invariant-pairs_extent-loop-pair
invariant-pairs_extent-loop-pair l = record {
  fits : l.total.length < 2 ^ 64;
  low : l.total.height < 2 ^ 32;
  least : 0 ≤ l.total.length;
  height : (d : ℕ) → in_u64 d ≡ l.depth → max l.total.height (in_u32 (filled_heights l.values d (map pair_tree (drop l.pair-index l.pairs.items)))) ≡ in_u32 (filled_heights l.values d (map pair_tree l.pairs.items));
  length : (d : ℕ) → in_u64 d ≡ l.depth → in_u64 (l.total.length + filled_sizes l.values d (map pair_tree (drop l.pair-index l.pairs.items))) ≡ in_u64 (0 + filled_sizes l.values d (map pair_tree l.pairs.items));
}

abbrev pub decreases-pairs_extent : goal.decreases-pairs_extent
decreases-pairs_extent l = 4 * weights (trees (map pair_tree l.pairs.now.items)) + 1

abbrev pub invariant-binds_extent-loop-bind : goal.invariant-binds_extent-loop-bind
invariant-binds_extent-loop-bind l = record {
  fits : l.total.length < 2 ^ 64;
  low : l.total.height < 2 ^ 32;
  least : 0 ≤ l.total.length;
  height : (d : ℕ) → in_u64 d ≡ l.depth → max l.total.height (in_u32 (filled_heights l.values d (map bind_tree (drop l.bind-index l.binds.items)))) ≡ in_u32 (filled_heights l.values d (map bind_tree l.binds.items));
  length : (d : ℕ) → in_u64 d ≡ l.depth → in_u64 (l.total.length + filled_sizes l.values d (map bind_tree (drop l.bind-index l.binds.items))) ≡ in_u64 (0 + filled_sizes l.values d (map bind_tree l.binds.items));
}

abbrev pub decreases-binds_extent : goal.decreases-binds_extent
decreases-binds_extent l = 4 * weights (trees (map bind_tree l.binds.now.items)) + 1

abbrev pub invariant-cases_extent-loop-case : goal.invariant-cases_extent-loop-case
invariant-cases_extent-loop-case l = record {
  fits : l.total.length < 2 ^ 64;
  low : l.total.height < 2 ^ 32;
  least : 0 ≤ l.total.length;
  height : (d : ℕ) → in_u64 d ≡ l.depth → max l.total.height (in_u32 (filled_heights l.values d (map case_tree (drop l.case-index l.cases.items)))) ≡ in_u32 (filled_heights l.values d (map case_tree l.cases.items));
  length : (d : ℕ) → in_u64 d ≡ l.depth → in_u64 (l.total.length + filled_sizes l.values d (map case_tree (drop l.case-index l.cases.items))) ≡ in_u64 (0 + filled_sizes l.values d (map case_tree l.cases.items));
}

abbrev pub decreases-cases_extent : goal.decreases-cases_extent
decreases-cases_extent l = 4 * weights (trees (map case_tree l.cases.now.items)) + 1

abbrev pub invariant-pats_extent-loop-pat : goal.invariant-pats_extent-loop-pat
invariant-pats_extent-loop-pat l = record {
  fits : l.total.length < 2 ^ 64;
  low : l.total.height < 2 ^ 32;
  least : 0 ≤ l.total.length;
  height : (d : ℕ) → in_u64 d ≡ l.depth → max l.total.height (in_u32 (filled_heights l.values d (drop l.pat-index l.pats.items))) ≡ in_u32 (filled_heights l.values d l.pats.items);
  length : (d : ℕ) → in_u64 d ≡ l.depth → in_u64 (l.total.length + filled_sizes l.values d (drop l.pat-index l.pats.items)) ≡ in_u64 (0 + filled_sizes l.values d l.pats.items);
}

abbrev pub decreases-pats_extent : goal.decreases-pats_extent
decreases-pats_extent l = 4 * weights (trees l.pats.now.items) + 1

abbrev pub invariant-pat_pairs_extent-loop-pair : goal.invariant-pat_pairs_extent-loop-pair
invariant-pat_pairs_extent-loop-pair l = record {
  fits : l.total.length < 2 ^ 64;
  low : l.total.height < 2 ^ 32;
  least : 0 ≤ l.total.length;
  height : (d : ℕ) → in_u64 d ≡ l.depth → max l.total.height (in_u32 (filled_heights l.values d (map pair_tree (drop l.pair-index l.pairs.items)))) ≡ in_u32 (filled_heights l.values d (map pair_tree l.pairs.items));
  length : (d : ℕ) → in_u64 d ≡ l.depth → in_u64 (l.total.length + filled_sizes l.values d (map pair_tree (drop l.pair-index l.pairs.items))) ≡ in_u64 (0 + filled_sizes l.values d (map pair_tree l.pairs.items));
}

abbrev pub decreases-pat_pairs_extent : goal.decreases-pat_pairs_extent
decreases-pat_pairs_extent l = 4 * weights (trees (map pair_tree l.pairs.now.items)) + 1
