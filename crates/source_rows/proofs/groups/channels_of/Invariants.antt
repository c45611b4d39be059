use Rattle.std.proofs.Common.{All}
use Rattle.join_index.specs.Groups.{IsChannel}
use Rattle.source_rows.proofs.groups.channels_of.Given as goal

abbrev pub invariant-loop-bind : goal.invariant-loop-bind
invariant-loop-bind l = All IsChannel l.channels.items
