use Rattle.std.proofs.Common.{List, map, ℕ}
use Rattle.calculus.specs.Meaning.{name_pat_written}
use Rattle.calculus.specs.Written.{Written}
use Rattle.grammar.specs.declared.mark.Mark.TheVariants as marks
use Rattle.grammar.specs.Productions.{Prod}
use Rattle.grammar.specs.Rules.{Sort, last}
use Rattle.grammar.specs.Terminals.{Terminal, sees}
use Rattle.grammar.specs.Values.{left_of}
use Rattle.token_cursor.specs.Meaning.{view}
use Rattle.token_cursor.specs.Reading.{of_left}
use Rattle.token_cursor.proofs.Steps.{chosen, ends, exit, left_closed}
use Rattle.leaf_forms.proofs.leaf.left_end.Goals as goal

pub returns-in_err-rest-clause-reads : goal.returns-in_err-rest-clause-reads
returns-in_err-rest-clause-reads c = λ free.
    let ps : List Written = map name_pat_written c.args.pats.value.items in
    let h : ℕ = c.args.pats.height in
    let ts : List Terminal = view c.args.cursor.now.rest.now in
    exit of_left _ _ c.from_residual.ensures.1 (chosen (Prod.left_end_rest ps h) (Prod.left_comma ps h) (Prod.left_end ps h) (sees marks.Ellipsis ts) (sees marks.Comma ts) (c.in_err-rest.ensures.reads free (left_of ps h) (last (Sort.LeftNext ps h)) (λ us out e r. left_closed ps h e r)))

pub returns-clause-reads : goal.returns-clause-reads
returns-clause-reads c = λ free.
    let ps : List Written = map name_pat_written c.args.pats.value.items in
    let h : ℕ = c.args.pats.height in
    let ts : List Terminal = view c.args.cursor.now.rest.now in
    chosen (Prod.left_end_rest ps h) (Prod.left_comma ps h) (Prod.left_end ps h) (sees marks.Ellipsis ts) (sees marks.Comma ts) (c.in_ok-rest.ensures.reads free (left_of ps h) (last (Sort.LeftNext ps h)) (λ us out e r. left_closed ps h e r) _ (ends _ _ c.left.ensures.tree c.left.ensures.height))
