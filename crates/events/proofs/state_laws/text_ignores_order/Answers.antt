use Rattle.events.proofs.state_laws.text_ignores_order.Goals as goal
use Rattle.events.proofs.Groups.{text_ignores_order}

pub returns : goal.returns
returns c = record { law = text_ignores_order }
