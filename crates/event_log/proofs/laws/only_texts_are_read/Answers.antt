use Rattle.event_log.proofs.laws.only_texts_are_read.Goals as goal
use Rattle.event_log.proofs.Texts.{only_texts_are_read}

pub returns : goal.returns
returns c = record { law = only_texts_are_read }
