use Rattle.grammar.specs.Descent.{runs_text}
use Rattle.token_cursor.specs.Reading.{of_name}
use Rattle.token_cursor.proofs.Steps.{ends, exit, lacks}
use Rattle.leaf_forms.proofs.leaf.name_word.Goals as goal

pub returns-in_err-name-clause-reads : goal.returns-in_err-name-clause-reads
returns-in_err-name-clause-reads c = λ free. exit (of_name) _ _ c.from_residual.ensures.1 (lacks _ c.in_err-name.ensures.reads)

pub returns-clause-reads : goal.returns-clause-reads
returns-clause-reads c = λ free. runs_text c.in_ok-name.ensures.reads (ends _ _ c.channel.ensures.tree c.channel.ensures.height)
