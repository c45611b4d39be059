use Rattle.calculus.specs.Meaning.{proc_written}
use Rattle.grammar.specs.Rules.{done}
use Rattle.grammar.specs.Values.{opened, processes, tuple_of}
use Rattle.form_steps.proofs.Handed.{as_fault, as_read, if_read, made_room, under_read}
use Rattle.form_steps.proofs.Turning.{built}
use Rattle.token_cursor.proofs.Steps.{gives_up}
use Rattle.token_cursor.specs.Reading.{of_proc, of_row}
use Rattle.std.proofs.Common.{arith, max, ◌+◌, ◌<◌, ◌^◌}
use Rattle.form_ends.proofs.group.tuple_from.Goals as goal

pub tuple-requires : goal.tuple-requires
tuple-requires c = record { first = c.requires.first; row = if_read (λ p. p.height + 1 < 2 ^ 32) _ c.in-Ok.is c.requires.row }

pub returns-in-Ok-clause-reads : goal.returns-in-Ok-clause-reads
returns-in-Ok-clause-reads c = λ free ts us g. as_read (λ r. done (opened (tuple_of processes (of_proc c.args.first).tree (of_row r).tree) (max c.args.first.height r.height))) _ c.in-Ok.is (under_read free _ us of_row (λ r. done (opened (tuple_of processes (of_proc c.args.first).tree r.tree) (max c.args.first.height r.height))) _ g) _ (built proc_written _ _ c.tuple.ensures.tree c.tuple.ensures.height)

pub returns-in-Ok-clause-room : goal.returns-in-Ok-clause-room
returns-in-Ok-clause-room c = λ n l h. let k = if_read (λ p. p.height < n) _ c.in-Ok.is h in made_room _ c.tuple.ensures.height (omega (arith, k, l))

pub returns-in-Err-clause-reads : goal.returns-in-Err-clause-reads
returns-in-Err-clause-reads c = λ free ts us g. gives_up of_proc _ _ c.give_up.ensures (as_fault (λ r. done (opened (tuple_of processes (of_proc c.args.first).tree (of_row r).tree) (max c.args.first.height r.height))) _ c.in-Err.is (under_read free _ us of_row (λ r. done (opened (tuple_of processes (of_proc c.args.first).tree r.tree) (max c.args.first.height r.height))) _ g))
