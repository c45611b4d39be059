use Rattle.std.proofs.Common.{◌≡◌, map, take}
use Rattle.std.specs.Prelude.{All}
use Rattle.checkpoint.specs.Groups.{row_of, IsKeyed}
use Rattle.checkpoint.proofs.keyed.keyed_rows.Given as goal

abbrev pub invariant-loop-place : goal.invariant-loop-place
invariant-loop-place l = record { rows : map row_of l.keyed.items ≡ take l.place l.rows; keyed : All IsKeyed l.keyed.items }
