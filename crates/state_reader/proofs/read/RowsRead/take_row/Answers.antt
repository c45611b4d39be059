use Rattle.std.proofs.Common.{arith}
use Rattle.state_reader.proofs.Misplaced.{misplaced-of-rows, misplaced-short, misplaced-place, misplaced-wrong}
use Rattle.state_reader.proofs.read.RowsRead.take_row.Goals as goal

pub returns-in-Ok-clause-tells : goal.returns-in-Ok-clause-tells
returns-in-Ok-clause-tells c = misplaced-of-rows _ c.place.result c.place.ensures.tells

pub returns-in-Ok-clause-cut : goal.returns-in-Ok-clause-cut
returns-in-Ok-clause-cut c = λ at e. absurd (misplaced-short _ c.place.result at c.place.ensures.tells e)

pub returns-in-Ok-clause-wrong : goal.returns-in-Ok-clause-wrong
returns-in-Ok-clause-wrong c = λ at e few within. (omega (arith, misplaced-place _ c.place.result at c.place.ensures.tells e), misplaced-wrong _ c.place.result at c.place.ensures.wrong c.place.ensures.tells e)
