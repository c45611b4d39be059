use Rattle.grammar.specs.Descent.{runs_last}
use Rattle.grammar.specs.Rules.{Sort, done, round, under}
use Rattle.grammar.specs.Values.{opened, send_of}
use Rattle.form_steps.specs.Parts.{after_sent}
use Rattle.form_steps.proofs.Handed.{if_read}
use Rattle.form_steps.proofs.Opened.{down, given_up, no_more, open_read, under_first}
use Rattle.form_steps.proofs.Turning.{flat_channel, sent_as}
use Rattle.token_cursor.proofs.Steps.{turns_back}
use Rattle.std.proofs.Common.{arith, ◌<◌}
use Rattle.form_steps.proofs.send.begin_sent.Goals as goal

pub returns-in-Ok-clause-reads : goal.returns-in-Ok-clause-reads
returns-in-Ok-clause-reads g c = λ side written out h. runs_last (sent_as side _ _ c.sees-persistent.ensures (c.in-Ok.ensures.reads c.args.free _ _ (λ _. under (Sort.Row side round) (λ r. done (opened (send_of side c.sees-persistent.result (written c.args.channel.value) r.tree) r.height))) (open_read _ _ _ _ _ _ c.opens_bang-marked.ensures.reads) out (flat_channel side _ _ _ c.requires h)))

pub returns-in-Ok-clause-room : goal.returns-in-Ok-clause-room
returns-in-Ok-clause-room g c = let k = if_read (λ _. 0 < c.args.free) _ c.in-Ok.ensures.same c.opens_bang-marked.ensures.room in omega (arith, k, c.requires)

pub returns-in-Ok-clause-shorter : goal.returns-in-Ok-clause-shorter
returns-in-Ok-clause-shorter g c = under_first c.in-Ok.ensures.shorter (no_more _ c.opens_bang-marked.ensures.shorter)

pub returns-in-Err-clause-reads : goal.returns-in-Err-clause-reads
returns-in-Err-clause-reads g c = λ side written. turns_back (after_sent side written) _ _ c.give_up.ensures (runs_last (sent_as side _ _ c.sees-persistent.ensures (c.in-Err.ensures.reads c.args.free _ _ (λ _. under (Sort.Row side round) (λ r. done (opened (send_of side c.sees-persistent.result (written c.args.channel.value) r.tree) r.height))) (open_read _ _ _ _ _ _ c.opens_bang-marked.ensures.reads))))

pub returns-in-Err-clause-shorter : goal.returns-in-Err-clause-shorter
returns-in-Err-clause-shorter g c = given_up _ _ _ _ c.give_up.ensures (down c.in-Err.ensures.shorter (no_more _ c.opens_bang-marked.ensures.shorter))
