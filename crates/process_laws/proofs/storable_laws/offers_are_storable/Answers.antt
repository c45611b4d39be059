use Rattle.process_laws.proofs.storable_laws.offers_are_storable.Goals as goal
use Rattle.process_laws.proofs.StorableStaying.{offers_are_storable}

pub returns : goal.returns
returns c = record { law = offers_are_storable }
