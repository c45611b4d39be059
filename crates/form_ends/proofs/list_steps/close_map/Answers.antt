use Rattle.form_steps.proofs.Handed.{if_read}
use Rattle.grammar.specs.Rules.{done}
use Rattle.grammar.specs.Values.{map_of, opened}
use Rattle.token_cursor.proofs.Steps.{ends}
use Rattle.token_cursor.specs.Reading.{pairs_written}
use Rattle.std.proofs.Common.{arith, ◌+◌, ◌<◌, ◌^◌}
use Rattle.form_ends.proofs.list_steps.close_map.Goals as goal

pub map-requires : goal.map-requires
map-requires c = record { pairs = if_read (λ ps. ps.height + 1 < 2 ^ 32) _ c.in-Ok.ensures.same c.requires }

pub returns-in-Ok-clause-reads : goal.returns-in-Ok-clause-reads
returns-in-Ok-clause-reads c = λ free r ts t. c.in-Ok.ensures.reads free r ts (λ ps. done (opened (map_of (pairs_written ps.value.items)) ps.height)) t _ (ends _ _ c.map.ensures.tree c.map.ensures.height)

pub returns-in-Ok-clause-room : goal.returns-in-Ok-clause-room
returns-in-Ok-clause-room c = λ n h. let k = if_read (λ ps. ps.height < n) _ c.in-Ok.ensures.same h in omega (arith, k, c.map.ensures.height)

pub returns-in-Err-clause-reads : goal.returns-in-Err-clause-reads
returns-in-Err-clause-reads c = λ free r ts t. c.in-Err.ensures.reads free r ts (λ ps. done (opened (map_of (pairs_written ps.value.items)) ps.height)) t
