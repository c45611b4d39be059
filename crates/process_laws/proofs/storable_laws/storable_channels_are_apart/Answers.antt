use Rattle.process_laws.proofs.storable_laws.storable_channels_are_apart.Goals as goal
use Rattle.process_laws.proofs.Channels.{storable_channels_are_apart}

pub returns : goal.returns
returns c = record { law = storable_channels_are_apart }
