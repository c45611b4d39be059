use Rattle.std.proofs.Common.{[], ap, ◌∙◌}
use Rattle.calculus.specs.Meaning.{rest_written}
use Rattle.grammar.specs.Values.{seq_of}
use Rattle.token_cursor.specs.Reading.{of_sequence}
use Rattle.token_cursor.proofs.Steps.{ends, exit, rest_as}
use Rattle.leaf_forms.proofs.close.sequence_only_rest.Goals as goal

pub returns-in_err-rest-clause-reads : goal.returns-in_err-rest-clause-reads
returns-in_err-rest-clause-reads c = λ free. exit of_sequence _ _ c.from_residual.ensures.1 (rest_as (seq_of [] 0) c.closing_mark.ensures (c.in_err-rest.ensures.reads free (seq_of [] 0)))

pub returns-clause-reads : goal.returns-clause-reads
returns-clause-reads c = λ free. rest_as (seq_of [] 0) c.closing_mark.ensures (c.in_ok-rest.ensures.reads free (seq_of [] 0) _ (ends _ _ (c.sequence.ensures.tree ∙ ap (λ xs. (seq_of xs 0 (rest_written c.in_ok-rest.rest)).tree) c.no_pats-none.ensures.tree) (c.sequence.ensures.height ∙ c.no_pats-none.ensures.height)))
