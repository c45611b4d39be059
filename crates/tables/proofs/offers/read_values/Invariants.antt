use Rattle.std.proofs.Common.{All}
use Rattle.calculus.specs.Form.{IsClosed}
use Rattle.tables.proofs.offers.read_values.Given as goal

abbrev pub invariant-loop-source : goal.invariant-loop-source
invariant-loop-source l = All IsClosed l.values.items
