use Rattle.process_laws.proofs.storable_laws.bodies_offer_storable_rows.Goals as goal
use Rattle.process_laws.proofs.StorableStaying.{bodies_offer_storable_rows}

pub returns : goal.returns
returns c = record { law = bodies_offer_storable_rows }
