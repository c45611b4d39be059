use Rattle.std.proofs.Common.{ℕ, List, ◌++◌, ◌∙◌, sym, ap, drop}
use Rattle.calculus.specs.Rows.{row_code}
use Rattle.state_reader.specs.Files.{misplaced}
use Rattle.state_reader.proofs.Placing.{front-fits, front-is}
use Rattle.state_reader.proofs.read.RowsRead.place.Goals as goal

pub front_of-code-requires : goal.front_of-code-requires
front_of-code-requires c = front-fits c.args.left.now (row_code c.args.row) c.args.len c.requires.row c.requires.length

pub add-requires-clause-code : goal.add-requires-clause-code
add-requires-clause-code c = c.front_of-code.ensures ∙ front-is c.args.left.now (row_code c.args.row) c.args.len c.requires.row c.requires.length

pub rest_of-requires : goal.rest_of-requires
rest_of-requires c = front-fits c.args.left.now (row_code c.args.row) c.args.len c.requires.row c.requires.length

pub returns-then-not-branch-clause-wrong : goal.returns-then-not-branch-clause-wrong
returns-then-not-branch-clause-wrong c = λ e. misplaced c.args.row (drop c.args.len c.args.left.now) c.requires.storable c.requires.row (c.in_ok-add.ensures.no c.if-not-branch.true)

pub returns-clause-hand : goal.returns-clause-hand
returns-clause-hand c = (c.in_ok-add.ensures.yes c.if-not-branch.false).0

pub returns-clause-adds : goal.returns-clause-adds
returns-clause-adds c = (c.args.row, (c.in_ok-add.ensures.yes c.if-not-branch.false).1, c.requires.row ∙ ap (λ (z : List ℕ). row_code c.args.row ++ z) (sym c.rest_of.ensures))
