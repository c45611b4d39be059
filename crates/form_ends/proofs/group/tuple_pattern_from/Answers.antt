use Rattle.calculus.specs.Meaning.{pat_written}
use Rattle.grammar.specs.Rules.{done}
use Rattle.grammar.specs.Values.{opened, patterns, tuple_of}
use Rattle.form_steps.proofs.Handed.{as_fault, as_read, if_read, made_room, under_read}
use Rattle.form_steps.proofs.Turning.{built}
use Rattle.token_cursor.proofs.Steps.{gives_up}
use Rattle.token_cursor.specs.Reading.{of_pat, of_pat_row}
use Rattle.std.proofs.Common.{arith, max, ◌+◌, ◌<◌, ◌^◌}
use Rattle.form_ends.proofs.group.tuple_pattern_from.Goals as goal

pub tuple_pat-requires : goal.tuple_pat-requires
tuple_pat-requires c = record { first = c.requires.first; row = if_read (λ p. p.height + 1 < 2 ^ 32) _ c.in-Ok.is c.requires.row }

pub returns-in-Ok-clause-reads : goal.returns-in-Ok-clause-reads
returns-in-Ok-clause-reads c = λ free ts us g. as_read (λ r. done (opened (tuple_of patterns (of_pat c.args.first).tree (of_pat_row r).tree) (max c.args.first.height r.height))) _ c.in-Ok.is (under_read free _ us of_pat_row (λ r. done (opened (tuple_of patterns (of_pat c.args.first).tree r.tree) (max c.args.first.height r.height))) _ g) _ (built pat_written _ _ c.tuple_pat.ensures.tree c.tuple_pat.ensures.height)

pub returns-in-Ok-clause-room : goal.returns-in-Ok-clause-room
returns-in-Ok-clause-room c = λ n l h. let k = if_read (λ p. p.height < n) _ c.in-Ok.is h in made_room _ c.tuple_pat.ensures.height (omega (arith, k, l))

pub returns-in-Err-clause-reads : goal.returns-in-Err-clause-reads
returns-in-Err-clause-reads c = λ free ts us g. gives_up of_pat _ _ c.give_up.ensures (as_fault (λ r. done (opened (tuple_of patterns (of_pat c.args.first).tree (of_pat_row r).tree) (max c.args.first.height r.height))) _ c.in-Err.is (under_read free _ us of_pat_row (λ r. done (opened (tuple_of patterns (of_pat c.args.first).tree r.tree) (max c.args.first.height r.height))) _ g))
