use Rattle.std.proofs.Common.{[], ap, ◌∙◌}
use Rattle.calculus.specs.Meaning.{rest_written}
use Rattle.grammar.specs.Values.{left_of}
use Rattle.token_cursor.specs.Reading.{of_left}
use Rattle.token_cursor.proofs.Steps.{ends, exit}
use Rattle.leaf_forms.proofs.left.left_only_rest.Goals as goal

pub returns-in_err-rest-clause-reads : goal.returns-in_err-rest-clause-reads
returns-in_err-rest-clause-reads c = λ free. exit of_left _ _ c.from_residual.ensures.1 (c.in_err-rest.ensures.reads free (left_of [] 0))

pub returns-clause-reads : goal.returns-clause-reads
returns-clause-reads c = λ free. c.in_ok-rest.ensures.reads free (left_of [] 0) _ (ends _ _ (c.left.ensures.tree ∙ ap (λ ps. (left_of ps 0 (rest_written c.in_ok-rest.rest)).tree) c.no_name_pats-none.ensures.tree) (c.left.ensures.height ∙ c.no_name_pats-none.ensures.height))
