-- What is kept of rows beside them.
use Rattle.std.specs.Prelude.{◌≡◌, ℕ, List, length, map as each}
use Rattle.calculus.specs.Rows.{Row, row_code}
use Rattle.calculus.specs.Root.{key}
use Rattle.checkpoint.specs.declared.marks.Mark.{Mark}

-- a mark as the key of a group and the length of a code
abbrev pub seen_mark : Mark → List ℕ × ℕ
seen_mark m = (m.key.0, m.len)

-- the key of a row's group, and the length of its code
abbrev pub row_mark : Row → List ℕ × ℕ
row_mark r = (key r, length (row_code r))

-- these are the marks of these rows, in their order
abbrev pub AreMarks : List Mark → List Row → Type 0
AreMarks ms rows = each seen_mark ms ≡ each row_mark rows
