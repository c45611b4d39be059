-- Rows of what is offered.
use Rattle.std.specs.Prelude.{map as each}
use Rattle.calculus.specs.Tree.{send, receive, row}
use Rattle.calculus.specs.Shape.{two, many}
use Rattle.calculus.specs.Rows.{Row}
use Rattle.rho_term.specs.declared.op.Op.{Op}
use Rattle.rho_term.specs.declared.op.Op.TheVariants as op
use Rattle.rho_term.specs.Parts.{bind_tree}

-- the row that an offer is: its id and its part
abbrev pub row_of_op : Op → Row
row_of_op (op.Produce id c xs q) = record { id = id.0; part = two (send q) c (many row xs.items) }
row_of_op (op.Consume id k bs body) = record { id = id.0; part = two (receive k) (many row (each bind_tree bs.items)) body }
