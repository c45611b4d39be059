use Rattle.std.proofs.Common.{List, ℕ}
use Rattle.calculus.specs.Written.{Written}
use Rattle.grammar.specs.declared.mark.Mark.TheVariants as marks
use Rattle.grammar.specs.Productions.{Prod}
use Rattle.grammar.specs.Rules.{Sort, last}
use Rattle.grammar.specs.Terminals.{Terminal, sees}
use Rattle.grammar.specs.Values.{map_pattern_of, opened}
use Rattle.token_cursor.specs.Meaning.{view}
use Rattle.token_cursor.specs.Reading.{of_pat, pat_pairs_written}
use Rattle.token_cursor.proofs.Steps.{chosen, ends, exit, pairs_closed}
use Rattle.leaf_forms.proofs.leaf.pairs_end.Goals as goal

pub returns-in_err-rest-clause-reads : goal.returns-in_err-rest-clause-reads
returns-in_err-rest-clause-reads c = λ free.
    let ps : List Written = pat_pairs_written c.args.pairs.value.items in
    let h : ℕ = c.args.pairs.height in
    let ts : List Terminal = view c.args.cursor.now.rest.now in
    exit of_pat _ _ c.from_residual.ensures.1 (chosen (Prod.ppairs_comma ps h) (Prod.ppairs_rest ps h) (Prod.ppairs_end ps h) (sees marks.Comma ts) (sees marks.Ellipsis ts) (c.in_err-rest.ensures.reads free (λ t. opened (map_pattern_of ps t) h) (last (Sort.PPairsNext ps h)) (λ us out e r. pairs_closed ps h e r)))

pub returns-clause-reads : goal.returns-clause-reads
returns-clause-reads c = λ free.
    let ps : List Written = pat_pairs_written c.args.pairs.value.items in
    let h : ℕ = c.args.pairs.height in
    let ts : List Terminal = view c.args.cursor.now.rest.now in
    chosen (Prod.ppairs_comma ps h) (Prod.ppairs_rest ps h) (Prod.ppairs_end ps h) (sees marks.Comma ts) (sees marks.Ellipsis ts) (c.in_ok-rest.ensures.reads free (λ t. opened (map_pattern_of ps t) h) (last (Sort.PPairsNext ps h)) (λ us out e r. pairs_closed ps h e r) _ (ends _ _ c.map_pat.ensures.tree c.map_pat.ensures.height))
