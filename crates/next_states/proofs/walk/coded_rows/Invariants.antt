use Rattle.std.proofs.Common.{◌≡◌, map, take}
use Rattle.std.specs.Prelude.{All}
use Rattle.next_states.specs.Walks.{row_of, IsCoded}
use Rattle.next_states.proofs.walk.coded_rows.Given as goal

abbrev pub invariant-loop-row : goal.invariant-loop-row
invariant-loop-row l = record { rows : map row_of l.coded.items ≡ take l.row-index l.rows; coded : All IsCoded l.coded.items }
