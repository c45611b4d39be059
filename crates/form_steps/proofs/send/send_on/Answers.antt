use Rattle.grammar.specs.Descent.{runs_last}
use Rattle.grammar.specs.Rules.{Sort, done, last, round, under}
use Rattle.grammar.specs.Values.{opened, send_of, spelt}
use Rattle.form_steps.specs.Parts.{after_sent}
use Rattle.form_steps.proofs.Handed.{as_fault, as_read, if_read}
use Rattle.form_steps.proofs.Opened.{down, falls, no_more, none_read, sign_read, under_first}
use Rattle.form_steps.proofs.Turning.{sent_tail_as}
use Rattle.token_cursor.proofs.Steps.{turns_back}
use Rattle.std.proofs.Common.{max, ◌<◌}
use Rattle.form_steps.proofs.send.send_on.Goals as goal

pub returns-in-Ok-then_mark-clause-reads : goal.returns-in-Ok-then_mark-clause-reads
returns-in-Ok-then_mark-clause-reads g c = λ side written free r ts t out h. as_read (λ n. last (Sort.SentTail side (spelt (written n.value) n.height))) _ c.in-Ok.is t out (runs_last (sent_tail_as side _ _ c.sees-persistent.ensures (c.in-Ok-then_mark.ensures.reads free _ _ (λ _. under (Sort.Row side round) (λ r. done (opened (send_of side c.sees-persistent.result (written c.in-Ok.channel.value) r.tree) (max c.in-Ok.channel.height r.height)))) (sign_read _ _ _ _ _ _ c.expect_bang-marked.ensures.reads) out h)))

pub returns-in-Ok-then_mark-clause-room : goal.returns-in-Ok-then_mark-clause-room
returns-in-Ok-then_mark-clause-room g c = λ n h. if_read (λ p. p.height < n) _ c.in-Ok.is h

pub returns-in-Ok-then_mark-clause-shorter : goal.returns-in-Ok-then_mark-clause-shorter
returns-in-Ok-then_mark-clause-shorter g c = falls (under_first c.in-Ok-then_mark.ensures.shorter (no_more _ c.expect_bang-marked.ensures.shorter))

pub returns-in-Err-then_mark-clause-reads : goal.returns-in-Err-then_mark-clause-reads
returns-in-Err-then_mark-clause-reads g c = λ side written free r ts t. turns_back (after_sent side written) _ _ c.give_up.ensures (as_read (λ n. last (Sort.SentTail side (spelt (written n.value) n.height))) _ c.in-Ok.is t _ (runs_last (sent_tail_as side _ _ c.sees-persistent.ensures (c.in-Err-then_mark.ensures.reads free _ _ (λ _. under (Sort.Row side round) (λ r. done (opened (send_of side c.sees-persistent.result (written c.in-Ok.channel.value) r.tree) (max c.in-Ok.channel.height r.height)))) (sign_read _ _ _ _ _ _ c.expect_bang-marked.ensures.reads)))))

pub returns-in-Err-then_mark-clause-room : goal.returns-in-Err-then_mark-clause-room
returns-in-Err-then_mark-clause-room g c = λ n h. none_read _ _ _ c.give_up.ensures

pub returns-in-Err-then_mark-clause-shorter : goal.returns-in-Err-then_mark-clause-shorter
returns-in-Err-then_mark-clause-shorter g c = down c.in-Err-then_mark.ensures.shorter (no_more _ c.expect_bang-marked.ensures.shorter)

pub returns-in-Err-clause-reads : goal.returns-in-Err-clause-reads
returns-in-Err-clause-reads g c = λ side written free r ts t. as_fault (λ n. last (Sort.SentTail side (spelt (written n.value) n.height))) _ c.in-Err.is t
