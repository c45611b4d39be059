use Rattle.source_laws.proofs.MadeSources.{made_inputs_are_sound}
use Rattle.source_laws.proofs.made_inputs_are_sound.Goals as goal

pub returns : goal.returns
returns c = record { law = made_inputs_are_sound }
