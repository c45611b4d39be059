use Rattle.std.proofs.Common.{◌≡◌, ◌++◌, map, length}
use Rattle.calculus.specs.Bytes.{joined}
use Rattle.calculus.specs.Rows.{row_code}
use Rattle.state_reader.specs.Reading.{IsInHand}
use Rattle.state_reader.proofs.read.take_rows.Given as goal

abbrev pub invariant-loop-i : goal.invariant-loop-i
invariant-loop-i l = record {
  hand : IsInHand l.read;
  number : length l.read.rows.items ≡ l._i;
  is : l.bytes ≡ joined (map row_code l.read.rows.items) ++ l.left;
}
