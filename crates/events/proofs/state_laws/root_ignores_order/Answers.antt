use Rattle.events.proofs.state_laws.root_ignores_order.Goals as goal
use Rattle.events.proofs.Groups.{root_ignores_order}

pub returns : goal.returns
returns c = record { law = root_ignores_order }
