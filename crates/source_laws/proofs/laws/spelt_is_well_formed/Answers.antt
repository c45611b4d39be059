use Rattle.source_laws.proofs.laws.spelt_is_well_formed.Goals as goal
use Rattle.source_laws.proofs.Spelling.{spelt_is_well_formed, text_is_well_formed}

pub returns : goal.returns
returns c = record { of_tokens = spelt_is_well_formed; of_texts = text_is_well_formed }
