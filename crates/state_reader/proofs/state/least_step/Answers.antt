use Rattle.std.proofs.Common.{[]}
use Rattle.events.specs.Events.{stored}
use Rattle.state_reader.proofs.Laid.{least-found}
use Rattle.state_reader.proofs.state.least_step.Goals as goal

pub returns : goal.returns
returns c = least-found c.args.rows.now c.first_reducible.result (λ p d n. c.first_reducible.ensures (stored c.args.rows.now) [] p d n)
