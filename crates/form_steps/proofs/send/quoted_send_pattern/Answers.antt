use Rattle.calculus.specs.Meaning.{name_pat_written, pat_written}
use Rattle.grammar.specs.Rules.{Sort, last}
use Rattle.grammar.specs.Values.{patterns, quoted_of, spelt}
use Rattle.form_steps.proofs.Handed.{as_fault, as_read, if_read}
use Rattle.form_steps.proofs.Opened.{made_on, made_under}
use Rattle.std.proofs.Common.{◌<◌}
use Rattle.form_steps.proofs.send.quoted_send_pattern.Goals as goal

pub returns-in-Ok-clause-reads : goal.returns-in-Ok-clause-reads
returns-in-Ok-clause-reads c = λ free r ts t. c.send_on.ensures.reads patterns name_pat_written free r ts (made_on name_pat_written (λ n. last (Sort.SentTail patterns n)) (spelt (quoted_of (pat_written c.in-Ok.quoted.value)) c.in-Ok.quoted.height) _ c.quote_pat-channel.ensures.tree c.quote_pat-channel.ensures.height (as_read (λ p. last (Sort.SentTail patterns (spelt (quoted_of (pat_written p.value)) p.height))) _ c.in-Ok.is t))

pub returns-in-Ok-clause-room : goal.returns-in-Ok-clause-room
returns-in-Ok-clause-room c = λ n h. c.send_on.ensures.room n (made_under _ c.quote_pat-channel.ensures.height (if_read (λ p. p.height < n) _ c.in-Ok.is h))

pub returns-in-Err-clause-reads : goal.returns-in-Err-clause-reads
returns-in-Err-clause-reads c = λ free r ts t. as_fault (λ p. last (Sort.SentTail patterns (spelt (quoted_of (pat_written p.value)) p.height))) _ c.in-Err.is t
