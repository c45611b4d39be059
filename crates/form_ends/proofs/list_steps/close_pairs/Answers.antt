use Rattle.form_steps.proofs.Handed.{as_fault, as_read, if_read, made_room}
use Rattle.grammar.specs.Descent.{runs_last}
use Rattle.grammar.specs.Rules.{Sort, last}
use Rattle.token_cursor.specs.Meaning.{view}
use Rattle.token_cursor.specs.Reading.{pat_pairs_written, sees_member}
use Rattle.std.proofs.Common.{arith, false, ◌+◌, ◌<◌, ◌^◌, ◌≡◌}
use Rattle.form_ends.proofs.list_steps.close_pairs.Goals as goal

pub pairs_end-requires : goal.pairs_end-requires
pairs_end-requires c = record { member = if_read (λ ps. sees_member (view c.args.cursor.now.rest.now) ≡ false) _ c.in-Ok.is c.requires.member; room = if_read (λ ps. ps.height + 1 < 2 ^ 32) _ c.in-Ok.is c.requires.room }

pub returns-in-Ok-clause-reads : goal.returns-in-Ok-clause-reads
returns-in-Ok-clause-reads c = λ free r ts t. as_read (λ ps. last (Sort.PPairs (pat_pairs_written ps.value.items) ps.height)) _ c.in-Ok.is t _ (runs_last (c.pairs_end.ensures.reads free))

pub returns-in-Ok-clause-room : goal.returns-in-Ok-clause-room
returns-in-Ok-clause-room c = λ n h. let k = if_read (λ ps. ps.height < n) _ c.in-Ok.is h in made_room _ c.pairs_end.ensures.height (omega (arith, k))

pub returns-in-Err-clause-reads : goal.returns-in-Err-clause-reads
returns-in-Err-clause-reads c = λ free r ts t. as_fault (λ ps. last (Sort.PPairs (pat_pairs_written ps.value.items) ps.height)) _ c.in-Err.is t
