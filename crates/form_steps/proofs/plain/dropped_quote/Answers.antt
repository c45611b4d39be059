use Rattle.grammar.specs.Rules.{done}
use Rattle.grammar.specs.Values.{drop_of, opened, quote_of}
use Rattle.form_steps.proofs.Handed.{as_fault, as_read, if_read}
use Rattle.form_steps.proofs.Turning.{forgets}
use Rattle.token_cursor.proofs.Steps.{ends}
use Rattle.token_cursor.specs.Reading.{of_proc}
use Rattle.std.proofs.Common.{ap, arith, ◌+◌, ◌<◌, ◌^◌, ◌∙◌}
use Rattle.form_steps.proofs.plain.dropped_quote.Goals as goal

pub dropped_quote-requires : goal.dropped_quote-requires
dropped_quote-requires c = let k = if_read (λ p. p.height + 1 < 2 ^ 32) _ c.in-Ok.is c.requires in omega (arith, k, c.in-Ok-quote.ensures.height)

pub returns-in-Ok-quote-clause-reads : goal.returns-in-Ok-quote-clause-reads
returns-in-Ok-quote-clause-reads c = λ free r ts us t. as_read (λ p. done (opened (drop_of (quote_of (of_proc p).tree)) p.height)) _ c.in-Ok.is t _ (ends _ _ (c.dropped_quote.ensures.tree ∙ ap drop_of c.in-Ok-quote.ensures.tree) (c.dropped_quote.ensures.height ∙ ap (λ n. n + 1) c.in-Ok-quote.ensures.height))

pub returns-in-Ok-quote-clause-room : goal.returns-in-Ok-quote-clause-room
returns-in-Ok-quote-clause-room c = λ n h. let k = if_read (λ p. p.height < n) _ c.in-Ok.is h in omega (arith, k, c.in-Ok-quote.ensures.height, c.dropped_quote.ensures.height)

pub returns-in-Err-quote-clause-reads : goal.returns-in-Err-quote-clause-reads
returns-in-Err-quote-clause-reads c = λ free r ts us t. as_read (λ p. done (opened (drop_of (quote_of (of_proc p).tree)) p.height)) _ c.in-Ok.is t _ (forgets _ c.in-Err-quote.ensures.tree)

pub returns-in-Err-clause-reads : goal.returns-in-Err-clause-reads
returns-in-Err-clause-reads c = λ free r ts us t. as_fault (λ p. done (opened (drop_of (quote_of (of_proc p).tree)) p.height)) _ c.in-Err.is t
