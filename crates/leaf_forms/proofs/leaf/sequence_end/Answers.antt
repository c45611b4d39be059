use Rattle.std.proofs.Common.{List, map, ℕ}
use Rattle.calculus.specs.Meaning.{pat_written}
use Rattle.calculus.specs.Written.{Written}
use Rattle.grammar.specs.declared.mark.Mark.TheVariants as marks
use Rattle.grammar.specs.Productions.{Prod}
use Rattle.grammar.specs.Rules.{Bracket, Sort, last}
use Rattle.grammar.specs.Terminals.{Terminal, sees}
use Rattle.grammar.specs.Values.{seq_of}
use Rattle.token_cursor.specs.Meaning.{view}
use Rattle.token_cursor.specs.Reading.{bracket_of, of_sequence}
use Rattle.token_cursor.proofs.Steps.{chosen, end_as, ends, exit, rest_as, sequence_closed}
use Rattle.leaf_forms.proofs.leaf.sequence_end.Goals as goal

pub returns-in_err-rest-clause-reads : goal.returns-in_err-rest-clause-reads
returns-in_err-rest-clause-reads c = λ free.
    let ps : List Written = map pat_written c.args.pats.value.items in
    let h : ℕ = c.args.pats.height in
    let b : Bracket = bracket_of c.args.bracket in
    let ts : List Terminal = view c.args.cursor.now.rest.now in
    exit of_sequence _ _ c.from_residual.ensures.1 (chosen (Prod.seq_comma b ps h) (Prod.seq_end_rest b ps h) (Prod.seq_end b ps h) (sees marks.Comma ts) (sees marks.Ellipsis ts) (end_as ts (seq_of ps h) (last (Sort.SeqNext b ps h)) c.closing_mark.ensures (c.in_err-rest.ensures.reads free (seq_of ps h) (last (Sort.SeqNext b ps h)) (λ us out e r. sequence_closed b ps h e (rest_as (seq_of ps h) c.closing_mark.ensures r)))))

pub returns-clause-reads : goal.returns-clause-reads
returns-clause-reads c = λ free.
    let ps : List Written = map pat_written c.args.pats.value.items in
    let h : ℕ = c.args.pats.height in
    let b : Bracket = bracket_of c.args.bracket in
    let ts : List Terminal = view c.args.cursor.now.rest.now in
    chosen (Prod.seq_comma b ps h) (Prod.seq_end_rest b ps h) (Prod.seq_end b ps h) (sees marks.Comma ts) (sees marks.Ellipsis ts) (end_as ts (seq_of ps h) (last (Sort.SeqNext b ps h)) c.closing_mark.ensures (c.in_ok-rest.ensures.reads free (seq_of ps h) (last (Sort.SeqNext b ps h)) (λ us out e r. sequence_closed b ps h e (rest_as (seq_of ps h) c.closing_mark.ensures r)) _ (ends _ _ c.sequence.ensures.tree c.sequence.ensures.height)))
