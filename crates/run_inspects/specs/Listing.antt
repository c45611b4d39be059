-- The text that a state is shown as.
use Rattle.std.specs.Prelude.{ℕ, List, ◌++◌, length, flat_map, codes}
use Rattle.hex.specs.Hex.{encode_lower}
use Rattle.calculus.specs.Printed.{printed_text}
use Rattle.calculus.specs.Root.{root}
use Rattle.calculus.specs.Rows.{Row}
use Rattle.calculus.specs.Shape.{only}
use Rattle.run_reports.specs.Report.{state_line}

-- the line of a row: its id in hexadecimal, a space, the printed text of the row as a process, and a line feed
abbrev pub row_line : Row → List ℕ
row_line r = encode_lower r.id ++ (codes " " ++ (printed_text (only r.part) ++ codes "\n"))

-- the lines of these rows, in their order
abbrev pub row_lines : List Row → List ℕ
row_lines rows = flat_map row_line rows

-- the listing of the state of these rows: the line of its report, and then their lines
abbrev pub listing : List Row → List ℕ
listing rows = state_line (root rows) (length rows) ++ row_lines rows
