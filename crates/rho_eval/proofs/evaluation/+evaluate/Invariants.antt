use Rattle.std.proofs.Common.{◌≡◌, ◌≤◌, ℕ, ◌+◌, ◌*◌, List, ◌++◌, map, drop, All}
use Rattle.std.specs.Prelude.{flat_map}
use Rattle.calculus.specs.Tree.{Tree, trees, weight, weights}
use Rattle.calculus.specs.Shape.{held}
use Rattle.calculus.specs.Outcome.{Outcome, in_order}
use Rattle.calculus.specs.Values.{value}
use Rattle.rho_term.specs.Normal.{IsOrdered}
use Rattle.rho_term.specs.Parts.{part_tree, pair_tree}
use Rattle.price_table.specs.declared.stop.EvalStop.{EvalStop}
use Rattle.price_table.specs.Outcomes.{Came, Stopped}
use Rattle.price_table.proofs.Outcomes.{Leads}
use Rattle.rho_eval.proofs.evaluation.+evaluate.Given as goal

abbrev pub decreases-eval_term : goal.decreases-eval_term
decreases-eval_term l = 4 * weight l.term.now

abbrev pub decreases-eval_parts : goal.decreases-eval_parts
decreases-eval_parts l = 4 * weights (trees (map part_tree l.parts.now)) + 1

abbrev pub invariant-eval_parts-loop-part : goal.invariant-eval_parts-loop-part
invariant-eval_parts-loop-part l = record {
  fits : l.total ≤ l.cap;
  whole : List Tree;
  flat : map part_tree l.values.items ≡ flat_map held whole;
  leads : Leads l.cap l.price l.total whole (map (λ q. value l.prices (part_tree q)) l.parts) (map (λ q. value l.prices (part_tree q)) (drop l.part-index l.parts));
  ordered : All (λ q. IsOrdered (part_tree q)) l.values.items;
}

abbrev pub decreases-eval_terms : goal.decreases-eval_terms
decreases-eval_terms l = 4 * weights (trees l.terms.now.items) + 1

abbrev pub invariant-eval_terms-loop-term : goal.invariant-eval_terms-loop-term
invariant-eval_terms-loop-term l = record {
  fits : l.total ≤ l.cap;
  leads : Leads l.cap l.price l.total l.values.items (map (value l.prices) l.terms.items) (map (value l.prices) (drop l.term-index l.terms.items));
}

abbrev pub decreases-eval_pairs : goal.decreases-eval_pairs
decreases-eval_pairs l = 4 * weights (trees (map pair_tree l.pairs.now.items)) + 1

abbrev pub invariant-eval_pairs-loop-key : goal.invariant-eval_pairs-loop-key
invariant-eval_pairs-loop-key l = record {
  fits : l.total ≤ l.cap;
  leads : Leads l.cap l.price l.total (map pair_tree l.values.items) (map (λ q. value l.prices (pair_tree q)) l.pairs.items) (map (λ q. value l.prices (pair_tree q)) (drop l.key-index l.pairs.items));
}

abbrev pub decreases-eval_part : goal.decreases-eval_part
decreases-eval_part l = 4 * weight (part_tree l.part.now)
