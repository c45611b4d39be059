use Rattle.calculus.specs.Meaning.{name_pat_written}
use Rattle.form_steps.proofs.Handed.{as_fault, as_read, if_read, made_room}
use Rattle.grammar.specs.Descent.{runs_last}
use Rattle.grammar.specs.Rules.{Sort, last}
use Rattle.token_cursor.specs.Meaning.{view}
use Rattle.token_cursor.specs.Reading.{sees_member}
use Rattle.std.proofs.Common.{false, map, ◌≡◌, ◌≤◌}
use Rattle.form_ends.proofs.list_steps.close_left.Goals as goal

pub left_end-requires : goal.left_end-requires
left_end-requires c = record { member = if_read (λ ps. sees_member (view c.args.cursor.now.rest.now) ≡ false) _ c.in-Ok.is c.requires }

pub returns-in-Ok-clause-reads : goal.returns-in-Ok-clause-reads
returns-in-Ok-clause-reads c = λ free r ts t. as_read (λ ps. last (Sort.LeftTail (map name_pat_written ps.value.items) ps.height)) _ c.in-Ok.is t _ (runs_last (c.left_end.ensures.reads free))

pub returns-in-Ok-clause-room : goal.returns-in-Ok-clause-room
returns-in-Ok-clause-room c = λ n h. made_room _ c.left_end.ensures.height (if_read (λ ps. ps.height ≤ n) _ c.in-Ok.is h)

pub returns-in-Err-clause-reads : goal.returns-in-Err-clause-reads
returns-in-Err-clause-reads c = λ free r ts t. as_fault (λ ps. last (Sort.LeftTail (map name_pat_written ps.value.items) ps.height)) _ c.in-Err.is t
