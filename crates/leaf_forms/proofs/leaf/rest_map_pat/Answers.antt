use Rattle.std.proofs.Common.{◌+◌, [], ap, ◌∙◌}
use Rattle.calculus.specs.Meaning.{rest_written}
use Rattle.grammar.specs.Values.{map_pattern_of, opened}
use Rattle.token_cursor.specs.Reading.{of_pat}
use Rattle.token_cursor.proofs.Steps.{ends, exit}
use Rattle.leaf_forms.proofs.leaf.rest_map_pat.Goals as goal

pub returns-in_err-rest-clause-reads : goal.returns-in_err-rest-clause-reads
returns-in_err-rest-clause-reads c = λ free. exit of_pat _ _ c.from_residual.ensures.1 (c.in_err-rest.ensures.reads free (λ t. opened (map_pattern_of [] t) 0))

pub returns-clause-reads : goal.returns-clause-reads
returns-clause-reads c = λ free. c.in_ok-rest.ensures.reads free (λ t. opened (map_pattern_of [] t) 0) _ (ends _ _ (c.map_pat.ensures.tree ∙ ap (λ xs. map_pattern_of xs (rest_written c.in_ok-rest.rest)) c.no_pairs-none.ensures.tree) (c.map_pat.ensures.height ∙ ap (λ n. n + 1) c.no_pairs-none.ensures.height))
