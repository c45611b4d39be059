use Rattle.calculus.specs.Meaning.{name_written}
use Rattle.form_steps.proofs.Handed.{as_fault, as_read, if_read, made_room}
use Rattle.form_steps.proofs.Turning.{built}
use Rattle.grammar.specs.Rules.{done}
use Rattle.grammar.specs.Values.{quote_of, spelt}
use Rattle.token_cursor.specs.Reading.{of_proc}
use Rattle.std.proofs.Common.{◌≤◌}
use Rattle.form_ends.proofs.form_end.quoted_name.Goals as goal

pub returns-in-Ok-clause-reads : goal.returns-in-Ok-clause-reads
returns-in-Ok-clause-reads c = λ free r ts us t. as_read (λ p. done (spelt (quote_of (of_proc p).tree) p.height)) _ c.in-Ok.is t _ (built name_written _ _ c.quote.ensures.tree c.quote.ensures.height)

pub returns-in-Ok-clause-room : goal.returns-in-Ok-clause-room
returns-in-Ok-clause-room c = λ n h. made_room _ c.quote.ensures.height (if_read (λ p. p.height ≤ n) _ c.in-Ok.is h)

pub returns-in-Err-clause-reads : goal.returns-in-Err-clause-reads
returns-in-Err-clause-reads c = λ free r ts us t. as_fault (λ p. done (spelt (quote_of (of_proc p).tree) p.height)) _ c.in-Err.is t
