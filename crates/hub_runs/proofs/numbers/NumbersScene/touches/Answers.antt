use Rattle.std.proofs.Common.{◌%◌, arith}
use Rattle.hub_runs.proofs.Draws.{bits}
use Rattle.hub_runs.proofs.numbers.NumbersScene.touches.Goals as goal

pub returns-clause-bits : goal.returns-clause-bits
returns-clause-bits c k lt = bits (c.args.entry.now % 64) k (omega arith)
