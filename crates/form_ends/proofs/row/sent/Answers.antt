use Rattle.calculus.specs.Meaning.{name_written}
use Rattle.grammar.specs.Rules.{done}
use Rattle.grammar.specs.Values.{opened, processes, send_of}
use Rattle.form_steps.proofs.Handed.{as_fault, as_read, if_read, under_read}
use Rattle.token_cursor.proofs.Steps.{ends, gives_up}
use Rattle.token_cursor.specs.Reading.{of_proc, of_row}
use Rattle.std.proofs.Common.{arith, max, ◌+◌, ◌<◌, ◌^◌}
use Rattle.form_ends.proofs.row.sent.Goals as goal

pub send-requires : goal.send-requires
send-requires c = record { channel = c.requires.channel; args = if_read (λ p. p.height + 1 < 2 ^ 32) _ c.in-Ok.is c.requires.args }

pub returns-in-Ok-clause-reads : goal.returns-in-Ok-clause-reads
returns-in-Ok-clause-reads c = λ free ts us g. as_read (λ r. done (opened (send_of processes c.args.sending.persistent (name_written c.args.sending.channel.value) (of_row r).tree) (max c.args.sending.channel.height r.height))) _ c.in-Ok.is (under_read free _ us of_row (λ r. done (opened (send_of processes c.args.sending.persistent (name_written c.args.sending.channel.value) r.tree) (max c.args.sending.channel.height r.height))) _ g) _ (ends _ _ c.send.ensures.tree c.send.ensures.height)

pub returns-in-Ok-clause-room : goal.returns-in-Ok-clause-room
returns-in-Ok-clause-room c = λ n l h. let k = if_read (λ p. p.height < n) _ c.in-Ok.is h in omega (arith, k, l, c.send.ensures.height)

pub returns-in-Err-clause-reads : goal.returns-in-Err-clause-reads
returns-in-Err-clause-reads c = λ free ts us g. gives_up of_proc _ _ c.give_up.ensures (as_fault (λ r. done (opened (send_of processes c.args.sending.persistent (name_written c.args.sending.channel.value) (of_row r).tree) (max c.args.sending.channel.height r.height))) _ c.in-Err.is (under_read free _ us of_row (λ r. done (opened (send_of processes c.args.sending.persistent (name_written c.args.sending.channel.value) r.tree) (max c.args.sending.channel.height r.height))) _ g))
