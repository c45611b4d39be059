use Rattle.process_laws.proofs.storable_laws.built_in_receivers_are_storable.Goals as goal
use Rattle.process_laws.proofs.StorableStaying.{built_in_receivers_are_storable}

pub returns : goal.returns
returns c = record { law = built_in_receivers_are_storable }
