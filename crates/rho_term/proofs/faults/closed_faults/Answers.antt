use Rattle.std.proofs.Common.{arith}
use Rattle.rho_term.proofs.Forms.{closed-other, count-trees, ground-faultless}
use Rattle.rho_term.proofs.faults.closed_faults.Goals as goal

pub returns-in-Ground : goal.returns-in-Ground
returns-in-Ground c = rw c.in-Ground.is (ground-faultless _)

pub returns-in-Receive : goal.returns-in-Receive
returns-in-Receive c = rw c.in-Receive.is (rw c.in-Receive.is at c.requires)

pub returns-in-New : goal.returns-in-New
returns-in-New c = rw c.in-New.is (rw c.in-New.is at c.requires)

pub returns-in-Match : goal.returns-in-Match
returns-in-Match c = rw c.in-Match.is (rw c.in-Match.is at c.requires)

pub returns-in-Tuple : goal.returns-in-Tuple
returns-in-Tuple c = rw c.in-Tuple.is (omega (arith, count-trees c.in-Tuple.members.items))

pub returns-in-Send : goal.returns-in-Send
returns-in-Send c = rw c.in-Send.is (omega arith)

pub returns-in-Bundle : goal.returns-in-Bundle
returns-in-Bundle c = rw c.in-Bundle.is (omega arith)

pub returns-in_default : goal.returns-in_default
returns-in_default c = closed-other c.args.part.now c.in_default.not-Ground c.in_default.not-Receive c.in_default.not-New c.in_default.not-Match c.in_default.not-Tuple c.in_default.not-Send c.in_default.not-Bundle
