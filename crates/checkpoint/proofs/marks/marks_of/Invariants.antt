use Rattle.std.proofs.Common.{◌≡◌, map, take}
use Rattle.checkpoint.specs.Marks.{seen_mark, row_mark}
use Rattle.checkpoint.proofs.marks.marks_of.Given as goal

abbrev pub invariant-loop-place : goal.invariant-loop-place
invariant-loop-place l = map seen_mark l.marks.items ≡ map row_mark (take l.place l.rows)
