use Rattle.calculus.specs.Meaning.{name_pat_written}
use Rattle.grammar.specs.Descent.{runs_text}
use Rattle.grammar.specs.Rules.{Sort, last}
use Rattle.grammar.specs.Values.{patterns}
use Rattle.form_steps.specs.Parts.{after_channel_pattern}
use Rattle.form_steps.proofs.Turning.{tails}
use Rattle.token_cursor.proofs.Steps.{carry, lacks}
use Rattle.form_steps.proofs.send.begin_send_pattern.Goals as goal

pub returns-in-Ok-clause-reads : goal.returns-in-Ok-clause-reads
returns-in-Ok-clause-reads c = carry after_channel_pattern _ _ (λ out h. runs_text c.in-Ok.ensures.reads (tails (λ n. last (Sort.Sent patterns n)) _ _ c.bound_channel.ensures.tree c.bound_channel.ensures.height h)) (c.begin_sent.ensures.reads patterns name_pat_written)

pub returns-in-Err-clause-reads : goal.returns-in-Err-clause-reads
returns-in-Err-clause-reads c = lacks _ c.in-Err.ensures.reads
